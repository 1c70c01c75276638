use Rattle.std.proofs.Common.{refl}
use Rattle.sci_port.specs.declared.calls.Call.TheVariants.{TagWas}
use Rattle.sci_port.specs.SeatPorts.{same_terms, same_way}
use Rattle.sci_port.proofs.seat_port.SeatPortPort.tag.Goals as goal

pub tag-requires : goal.tag-requires
tag-requires g c = record { of = c.args.self.now.of; node = c.requires }

pub invariant_of-self : goal.invariant_of-self
invariant_of-self g c = let s = c.args.self.now in record { of = g.met.L.SharedLine.laws.stays s.line.now s.seat.now (TagWas c.args.node c.tag.result) c.tag.new.seat s.of c.tag.ensures }

pub returns-clause-gives : goal.returns-clause-gives
returns-clause-gives g c = (refl, refl, c.tag.ensures)

pub returns-clause-same_way : goal.returns-clause-same_way
returns-clause-same_way g c = let s = c.args.self.now in same_way g.met.L.SharedLine.laws s.line.now s.seat.now s.of (TagWas c.args.node c.tag.result) c.tag.new.seat c.tag.ensures refl

pub returns-clause-same_fact : goal.returns-clause-same_fact
returns-clause-same_fact g c = let s = c.args.self.now in λ i. (same_terms g.met.L.SharedLine.laws s.line.now s.seat.now s.of (TagWas c.args.node c.tag.result) c.tag.new.seat c.tag.ensures i).keep

pub returns-clause-same_step : goal.returns-clause-same_step
returns-clause-same_step g c = (g.met.L.SharedLine.laws.owes c.args.self.now.seat.now (TagWas c.args.node c.tag.result) c.tag.new.seat c.tag.ensures).0

pub returns-clause-form : goal.returns-clause-form
returns-clause-form g c = (g.met.L.SharedLine.laws.owes c.args.self.now.seat.now (TagWas c.args.node c.tag.result) c.tag.new.seat c.tag.ensures).1
