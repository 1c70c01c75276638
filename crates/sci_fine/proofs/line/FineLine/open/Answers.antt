use Rattle.std.proofs.Common.{ℕ, ◌+◌, length, length-set, replicate, refl, ap, ◌∙◌}
use Rattle.std.proofs.lemmas.List.{length-replicate}
use Rattle.sci_fine.proofs.Seating.{opens}
use Rattle.sci_fine.proofs.line.FineLine.open.Goals as goal

pub new-requires : goal.new-requires
new-requires g c = opens g.K.Keeps.fits c.args.terms _ _ c.requires.fits c.requires.nodes.0 (c.as_slice.ensures.value ∙ c.in_ok-words.ensures)
    (c.in_ok-slots.ensures.items_if_clones_equal (λ y e. e) ∙ ap (λ (z : ℕ). replicate (z + 1) c.args.terms.opening) c.from.ensures)

pub invariant_of-result : goal.invariant_of-result
invariant_of-result g c =
    let ok = c.in-Ok.ensures.ok in
    record {
      sized = (
        ok.5,
        ok.0 ∙ (ap length (c.as_slice.ensures.value ∙ c.in_ok-words.ensures) ∙ (length-set _ _ _ ∙ length-replicate _ _)),
        ok.1 ∙ (ap length (c.in_ok-slots.ensures.items_if_clones_equal (λ y e. e)) ∙ (length-replicate _ _ ∙ ap (λ (z : ℕ). z + 1) c.from.ensures)),
        c.requires.nodes.0,
        c.requires.nodes.1,
      );
    }

pub returns : goal.returns
returns g c = let ok = c.in-Ok.ensures.ok in (refl, ok.2, ok.4)
