use Rattle.std.proofs.Common.{[], ◌∷◌, ◌++◌, length, refl, ap, ◌∙◌}
use Rattle.sci_coarse.proofs.Seating.{opens}
use Rattle.sci_coarse.proofs.line.CoarseLine.open.Goals as goal

pub new-requires : goal.new-requires
new-requires g c =
    let whole = c.in_ok-whole.ensures in
    opens g.K.Keeps.fits c.args.terms c.in_ok-whole.whole _ _ refl (c.push_reserved.ensures.items ∙ ap (λ z. z ++ c.in_ok-whole.whole ∷ []) c.in_ok-slots.ensures.items) whole.0 whole.1 c.requires.fits c.requires.nodes.0

pub invariant_of-result : goal.invariant_of-result
invariant_of-result g c =
    let ok = c.in-Ok.ensures.ok in
    record {
      sized = (
        ok.5,
        ok.0,
        ok.1 ∙ ap length (c.push_reserved.ensures.items ∙ ap (λ z. z ++ c.in_ok-whole.whole ∷ []) c.in_ok-slots.ensures.items),
        c.requires.nodes.0,
        c.requires.nodes.1,
      );
    }

pub returns : goal.returns
returns g c = let ok = c.in-Ok.ensures.ok in (refl, ok.2, ok.4)
