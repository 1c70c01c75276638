use Rattle.std.proofs.Common.{◌∙◌, arith}
use Rattle.sci_port.proofs.SeatBanked.{inside, nodes_is}
use Rattle.sci_port.proofs.seat_bank.SeatBankBank.nodes.Goals as goal

pub bounds-lines-from : goal.bounds-lines-from
bounds-lines-from g c = rw c.from.ensures (inside g.met.L.SharedLine.laws c.args.self.now.of c.args.line c.requires)

pub offset_bounds-lines-from : goal.offset_bounds-lines-from
offset_bounds-lines-from g c = omega (arith, bounds-lines-from g c)

pub returns : goal.returns
returns g c = c.nodes.ensures ∙ nodes_is g.met.L.SharedLine.laws c.args.self.now.of c.args.line c.requires c.from.result c.index-lines-from.result c.index-lines-from.result c.from.ensures c.index-lines-from.is
