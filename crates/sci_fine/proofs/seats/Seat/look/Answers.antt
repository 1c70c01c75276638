use Rattle.std.proofs.Common.{◌<◌, ◌≤◌, ℕ, Some, refl, sym, ap, ◌∙◌, subst, arith, map}
use Rattle.sci_core.specs.Carrying.{hand_of}
use Rattle.sci_core.specs.declared.pending.Pending.{Pending}
use Rattle.sci_fine.specs.declared.views.Terms.{Terms}
use Rattle.sci_fine.specs.Rule.{slot_number}
use Rattle.sci_core.specs.Step.{look_of}
use Rattle.sci_fine.proofs.Landing.{sits}
use Rattle.sci_fine.proofs.Reading as reading
use Rattle.sci_fine.proofs.seats.Seat.look.Goals as goal

pub look-found-requires : goal.look-found-requires
look-found-requires g c =
    let s = c.args.self.now in let node = c.number_of-number.ensures.value in let is = c.node.ensures in let seen = s.seen.0 in
    record {
      of = (c.requires.of.0, s.of ∙ ap (λ z. Some z) c.requires.of.1);
      own = (omega arith, subst (λ (z : Terms g.row.K.Denot × ℕ). z.1 < z.0.nodes) (λ i. (c.requires.of.1 i, sym s.seen.0 i)) s.below);
      note = c.requires.note;
    }

pub unreachable-requires : goal.unreachable-requires
unreachable-requires g c =
    let s = c.args.self.now in let t = s.standing.terms in
    let sized = c.args.line.now.sized in let nodes = ap (λ z. z.nodes) c.requires.of.1 in let small : t.nodes ≤ 65535 = omega (arith, nodes, sized.4) in
    let below : s.token.me.0.node < t.nodes = subst (λ (z : ℕ). z < t.nodes) (sym s.seen.0) s.below in
    reading.own_never g.K.Keeps.fits t s.token.me c.look-found.new.token.me c.look-found.result small below c.in-Err.field-0 _ (c.look-found.ensures.looked t s.of) _ c.read_tag.ensures.of_code c.in-Err.is

pub look-requires : goal.look-requires
look-requires g c =
    let s = c.args.self.now in let t = s.standing.terms in let x : ℕ = s.standing.node in let p : Pending = s.standing.pending in
    let sized = c.args.line.now.sized in let nodes = ap (λ z. z.nodes) c.requires.of.1 in let small : t.nodes ≤ 65535 = omega (arith, nodes, sized.4) in
    let below : s.token.me.0.node < t.nodes = subst (λ (z : ℕ). z < t.nodes) (sym s.seen.0) s.below in
    let looks = c.look-found.ensures.looked t s.of in
    let came = reading.own_came g.K.Keeps.fits t s.token.me c.look-found.new.token.me c.look-found.result small below _ c.requires.note looks _ c.read_tag.ensures.of_code c.in-Ok.tag c.in-Ok.is in
    let next = reading.own_next g.K.Keeps.fits t s.token.me c.look-found.new.token.me c.look-found.result small below _ looks _ c.read_tag.ensures.of_code c.in-Ok.tag c.in-Ok.is in
    (sits g.K.Keeps.fits t x p _ s.token.me.0 c.look-found.new.token.me.0 _ _ (look_of p c.in-Ok.tag) s.of s.seen s.hand came (next ∙ ap (λ (z : Pending). look_of z c.in-Ok.tag) s.seen.1)).standing

pub invariant_of-self : goal.invariant_of-self
invariant_of-self g c =
    let s = c.args.self.now in let t = s.standing.terms in let x : ℕ = s.standing.node in let p : Pending = s.standing.pending in
    let sized = c.args.line.now.sized in let nodes = ap (λ z. z.nodes) c.requires.of.1 in let small : t.nodes ≤ 65535 = omega (arith, nodes, sized.4) in
    let below : s.token.me.0.node < t.nodes = subst (λ (z : ℕ). z < t.nodes) (sym s.seen.0) s.below in
    let looks = c.look-found.ensures.looked t s.of in
    let came = reading.own_came g.K.Keeps.fits t s.token.me c.look-found.new.token.me c.look-found.result small below _ c.requires.note looks _ c.read_tag.ensures.of_code c.in-Ok.tag c.in-Ok.is in
    let next = reading.own_next g.K.Keeps.fits t s.token.me c.look-found.new.token.me c.look-found.result small below _ looks _ c.read_tag.ensures.of_code c.in-Ok.tag c.in-Ok.is in
    let q = sits g.K.Keeps.fits t x p _ s.token.me.0 c.look-found.new.token.me.0 _ _ c.look.new.self.pending s.of s.seen s.hand came (next ∙ (ap (λ (z : Pending). look_of z c.in-Ok.tag) s.seen.1 ∙ sym c.look.ensures.pending)) in
    let of = c.look.ensures.same.0 in let node = c.look.ensures.same.1 in
    record {
      of = q.of ∙ ap (λ z. Some z) (sym of);
      seen = (q.seen.0 ∙ sym node, q.seen.1, q.seen.2 ∙ ap (λ z. z.nodes) (sym of), q.seen.3);
      hand = q.hand ∙ ap (λ (z : ℕ). map slot_number (hand_of z c.look.new.self.pending)) (sym node);
      below = subst (λ (z : Terms g.row.K.Denot × ℕ). z.1 < z.0.nodes) (λ i. (sym of i, sym node i)) s.below;
    }

pub returns : goal.returns
returns g c =
    let s = c.args.self.now in let t = s.standing.terms in let x : ℕ = s.standing.node in let p : Pending = s.standing.pending in
    let sized = c.args.line.now.sized in let nodes = ap (λ z. z.nodes) c.requires.of.1 in let small : t.nodes ≤ 65535 = omega (arith, nodes, sized.4) in
    let below : s.token.me.0.node < t.nodes = subst (λ (z : ℕ). z < t.nodes) (sym s.seen.0) s.below in
    let looks = c.look-found.ensures.looked t s.of in
    let came = reading.own_came g.K.Keeps.fits t s.token.me c.look-found.new.token.me c.look-found.result small below _ c.requires.note looks _ c.read_tag.ensures.of_code c.in-Ok.tag c.in-Ok.is in
    let next = reading.own_next g.K.Keeps.fits t s.token.me c.look-found.new.token.me c.look-found.result small below _ looks _ c.read_tag.ensures.of_code c.in-Ok.tag c.in-Ok.is in
    let q = sits g.K.Keeps.fits t x p _ s.token.me.0 c.look-found.new.token.me.0 _ _ c.look.new.self.pending s.of s.seen s.hand came (next ∙ (ap (λ (z : Pending). look_of z c.in-Ok.tag) s.seen.1 ∙ sym c.look.ensures.pending)) in
    record { made = record { same = (c.look-found.ensures.same.0, c.look-found.ensures.same.1, c.look.ensures.same.1, c.look.ensures.same.0); came = came.step; owes = q.owes }; kept = refl }
