use Rattle.std.proofs.Common.{sym, ap, ◌∙◌}
use Rattle.sci_port.proofs.seat_port.SeatPortPort.nodes.Goals as goal

pub returns : goal.returns
returns g c = let s = c.args.self.now in c.nodes.ensures ∙ sym (ap (λ t. t.nodes) (g.met.L.SharedLine.laws.same_terms s.line.now s.seat.now s.of))
