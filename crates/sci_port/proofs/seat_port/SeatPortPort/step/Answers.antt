use Rattle.std.proofs.Common.{refl}
use Rattle.sci_port.specs.declared.calls.Call.TheVariants.{Stepped}
use Rattle.sci_port.specs.SeatPorts.{same_terms, same_way}
use Rattle.sci_port.proofs.seat_port.SeatPortPort.step.Goals as goal

pub step-requires : goal.step-requires
step-requires g c = record { of = c.args.self.now.of; allowed = c.requires.allowed; fits = c.requires.fits }

pub invariant_of-self : goal.invariant_of-self
invariant_of-self g c = let s = c.args.self.now in record { of = g.met.L.SharedLine.laws.stays s.line.now s.seat.now (Stepped c.args.event c.step.result) c.step.new.seat s.of c.step.ensures }

pub returns-clause-gives : goal.returns-clause-gives
returns-clause-gives g c = (refl, refl, c.step.ensures)

pub returns-clause-same_way : goal.returns-clause-same_way
returns-clause-same_way g c = let s = c.args.self.now in same_way g.met.L.SharedLine.laws s.line.now s.seat.now s.of (Stepped c.args.event c.step.result) c.step.new.seat c.step.ensures refl

pub returns-clause-same_fact : goal.returns-clause-same_fact
returns-clause-same_fact g c = let s = c.args.self.now in λ i. (same_terms g.met.L.SharedLine.laws s.line.now s.seat.now s.of (Stepped c.args.event c.step.result) c.step.new.seat c.step.ensures i).keep

pub returns-clause-row : goal.returns-clause-row
returns-clause-row g c = (g.met.L.SharedLine.laws.owes c.args.self.now.seat.now (Stepped c.args.event c.step.result) c.step.new.seat c.step.ensures).1

pub returns-clause-content : goal.returns-clause-content
returns-clause-content g c = (g.met.L.SharedLine.laws.owes c.args.self.now.seat.now (Stepped c.args.event c.step.result) c.step.new.seat c.step.ensures).2
