use Rattle.sci_port.proofs.SeatBanked.{node_below}
use Rattle.sci_port.proofs.seat_bank.SeatBankBank.node.Goals as goal

pub returns-clause-below : goal.returns-clause-below
returns-clause-below g c = λ line inside. node_below g.met.L.SharedLine.laws c.args.self.now.of line inside
