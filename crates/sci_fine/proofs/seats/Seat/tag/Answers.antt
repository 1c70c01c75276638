use Rattle.std.proofs.Common.{◌<◌, ◌≤◌, ℕ, Some, refl, sym, ap, ◌∙◌, subst, arith}
use Rattle.sci_core.specs.declared.pending.Pending.{Pending}
use Rattle.sci_port.specs.declared.calls.Call.TheVariants.{TagWas}
use Rattle.sci_port.proofs.Before.{tag_keeps}
use Rattle.sci_fine.specs.Steps.{slots_in}
use Rattle.sci_fine.proofs.Landing.{sits}
use Rattle.sci_fine.proofs.Reading as reading
use Rattle.sci_fine.proofs.seats.Seat.tag.Goals as goal

pub invariant_of-self : goal.invariant_of-self
invariant_of-self g c =
    let s = c.args.self.now in let v = (c.load-found.ensures.loaded s.standing.terms s.of).view in
    record {
      of = ap (λ u. u.of) v ∙ s.of;
      seen = (ap (λ u. u.node) v ∙ s.seen.0, ap (λ u. u.pending) v ∙ s.seen.1, ap (λ u. u.joined) v ∙ s.seen.2, ap (λ u. u.logs) v ∙ s.seen.3);
      hand = ap slots_in (c.load-found.ensures.loaded s.standing.terms s.of).hand ∙ s.hand;
      below = s.below;
    }

pub unreachable-requires : goal.unreachable-requires
unreachable-requires g c =
    let s = c.args.self.now in let t = s.standing.terms in let x : ℕ = s.standing.node in let p : Pending = s.standing.pending in
    let sized = c.args.line.now.sized in let nodes = ap (λ z. z.nodes) c.requires.of.1 in let small : t.nodes ≤ 65535 = omega (arith, nodes, sized.4) in
    let below : s.token.me.0.node < t.nodes = subst (λ (z : ℕ). z < t.nodes) (sym s.seen.0) s.below in
    reading.tag_never g.K.Keeps.fits t s.token.me c.load-found.new.token.me c.load-found.result small below c.in-Err.field-0 c.number_of.result c.args.node c.number_of.ensures.value (c.load-found.ensures.loaded t s.of) _ c.read_tag.ensures.of_code c.in-Err.is

pub returns : goal.returns
returns g c =
    let s = c.args.self.now in let t = s.standing.terms in let x : ℕ = s.standing.node in let p : Pending = s.standing.pending in
    let sized = c.args.line.now.sized in let nodes = ap (λ z. z.nodes) c.requires.of.1 in let small : t.nodes ≤ 65535 = omega (arith, nodes, sized.4) in
    let below : s.token.me.0.node < t.nodes = subst (λ (z : ℕ). z < t.nodes) (sym s.seen.0) s.below in
    let came = reading.tag_came g.K.Keeps.fits t s.token.me c.load-found.new.token.me c.load-found.result small below c.number_of.result c.args.node c.number_of.ensures.value (c.load-found.ensures.loaded t s.of) _ c.read_tag.ensures.of_code c.in-Ok.tag c.in-Ok.is in
    let q = sits g.K.Keeps.fits t x p (TagWas c.args.node (Some c.in-Ok.tag)) s.token.me.0 c.load-found.new.token.me.0 _ _ p s.of s.seen s.hand came (ap (λ u. u.pending) (c.load-found.ensures.loaded t s.of).view ∙ s.seen.1) in
    record { made = record { same = (c.load-found.ensures.same.0, c.load-found.ensures.same.1, refl, refl); came = came.step; owes = q.owes }; receives = tag_keeps _ _ _ _ _ refl }
