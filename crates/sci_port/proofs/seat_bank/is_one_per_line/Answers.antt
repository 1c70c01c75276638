use Rattle.std.proofs.Common.{refl, sym, ◌∙◌, arith}
use Rattle.sci_port.proofs.Elements.{at_index}
use Rattle.sci_port.specs.SeatBanks.{SitsOn}
use Rattle.sci_port.proofs.SeatBanked.{first_node}
use Rattle.sci_port.proofs.Elements.{clash}
use Rattle.sci_port.proofs.Elements.{looked_at, looked_all}
use Rattle.sci_port.proofs.seat_bank.is_one_per_line.Goals as goal

pub returns-then-seats-lines : goal.returns-then-seats-lines
returns-then-seats-lines g c = (λ e. absurd (clash _ e refl), λ one. absurd (c.if-seats-lines.true one.count))

pub loop-place-init : goal.loop-place-init
loop-place-init g c = λ k s near at. absurd (omega (arith, near))

pub returns-then-not-is_seat_at : goal.returns-then-not-is_seat_at
returns-then-not-is_seat_at g c = (
  (λ e. absurd (clash _ e refl)),
  (λ one.
      let h = one.each c.loop-place.place c.index-seats-place.result (at_index c.args.seats.now c.loop-place.place c.index-seats-place.result c.loop-place-test.true c.index-seats-place.is) in
      let mine = first_node c.args.lines.now c.args.seats.now c.requires one c.index-seats-0.result c.index-seats-0.result c.index-seats-0.is in
      absurd (clash c.is_seat_at.result (c.is_seat_at.ensures.1 (h.0 ∙ sym mine ∙ sym c.seat_node-node.ensures, h.1)) c.if-not-is_seat_at.true)),
)

pub loop-place-preserved : goal.loop-place-preserved
loop-place-preserved g c = looked_at (λ k s. SitsOn c.seat_node-node.result k (g.L.SharedLine.seating s)) c.args.seats.now c.loop-place.place c.index-seats-place.result c.loop-place-test.true c.index-seats-place.is (c.is_seat_at.ensures.0 c.if-not-is_seat_at.false) c.loop-place.invariant

pub returns : goal.returns
returns g c = (
  (λ _. record { count = c.if-seats-lines.false; node = c.seat_node-node.result; each = looked_all (λ k s. SitsOn c.seat_node-node.result k (g.L.SharedLine.seating s)) c.args.seats.now c.loop-place.place c.loop-place-test.false c.loop-place.invariant }),
  λ _. refl,
)
