use Rattle.std.proofs.Common.{ℕ, ◌<◌, sym, ap, subst}
use Rattle.sci_port.proofs.seat_port.SeatPortPort.node.Goals as goal

pub returns-clause-value : goal.returns-clause-value
returns-clause-value g c = c.seat_node.ensures

pub returns-clause-below : goal.returns-clause-below
returns-clause-below g c =
    let s = c.args.self.now in let laws = g.met.L.SharedLine.laws in
    subst (λ (n : ℕ). n < (g.L.SharedLine.seating s.seat.now).terms.nodes) (sym c.seat_node.ensures)
    (subst (λ (n : ℕ). (g.L.SharedLine.seating s.seat.now).node < n) (sym (ap (λ t. t.nodes) (laws.same_terms s.line.now s.seat.now s.of))) (laws.below s.line.now s.seat.now s.of))
