use Rattle.std.proofs.Common.{refl, sym, subst, ◌∙◌, arith}
use Rattle.sci_port.proofs.Elements.{at_index, clash, looked_at, looked_all}
use Rattle.sci_port.specs.SeatBanks.{SitsOn}
use Rattle.sci_port.proofs.closing.are_one_per_node.Goals as goal

pub returns-then-seats-from : goal.returns-then-seats-from
returns-then-seats-from g c = (λ e. absurd (clash _ e refl), λ all. absurd (c.if-seats-from.true (all.0 ∙ sym c.nodes.ensures ∙ sym c.from.ensures)))

pub loop-place-init : goal.loop-place-init
loop-place-init g c = λ k s near at. absurd (omega (arith, near))

pub returns-then-not-sits_on : goal.returns-then-not-sits_on
returns-then-not-sits_on g c = (
  (λ e. absurd (clash _ e refl)),
  (λ all. absurd (clash c.sits_on.result (c.sits_on.ensures.1 (subst (λ n. SitsOn c.loop-place.place n (g.L.SharedLine.seating c.index-seats-place.result)) (sym c.number.ensures) (all.1 c.loop-place.place c.index-seats-place.result (at_index c.args.seats.now c.loop-place.place c.index-seats-place.result c.loop-place-test.true c.index-seats-place.is)))) c.if-not-sits_on.true)),
)

pub loop-place-preserved : goal.loop-place-preserved
loop-place-preserved g c = looked_at (λ k s. SitsOn k (g.L.SharedLine.terms c.args.line.now).number (g.L.SharedLine.seating s)) c.args.seats.now c.loop-place.place c.index-seats-place.result c.loop-place-test.true c.index-seats-place.is (subst (λ n. SitsOn c.loop-place.place n (g.L.SharedLine.seating c.index-seats-place.result)) c.number.ensures (c.sits_on.ensures.0 c.if-not-sits_on.false)) c.loop-place.invariant

pub returns : goal.returns
returns g c = ((λ _. (c.if-seats-from.false ∙ c.from.ensures ∙ c.nodes.ensures, looked_all (λ k s. SitsOn k (g.L.SharedLine.terms c.args.line.now).number (g.L.SharedLine.seating s)) c.args.seats.now c.loop-place.place c.loop-place-test.false c.loop-place.invariant)), λ _. refl)
