use Rattle.std.proofs.Common.{refl}
use Rattle.sci_port.specs.declared.calls.Call.TheVariants.{Own}
use Rattle.sci_port.specs.SeatPorts.{same_terms, same_way}
use Rattle.sci_port.proofs.Seated.{own_form, own_word}
use Rattle.sci_port.proofs.seat_port.SeatPortPort.own.Goals as goal

pub own-requires : goal.own-requires
own-requires g c = c.args.self.now.of

pub invariant_of-self : goal.invariant_of-self
invariant_of-self g c = let s = c.args.self.now in record { of = g.met.L.SharedLine.laws.stays s.line.now s.seat.now (Own c.own.result) c.own.new.seat s.of c.own.ensures }

pub returns-clause-gives : goal.returns-clause-gives
returns-clause-gives g c = (refl, refl, c.own.ensures)

pub returns-clause-same_way : goal.returns-clause-same_way
returns-clause-same_way g c = let s = c.args.self.now in same_way g.met.L.SharedLine.laws s.line.now s.seat.now s.of (Own c.own.result) c.own.new.seat c.own.ensures refl

pub returns-clause-same_fact : goal.returns-clause-same_fact
returns-clause-same_fact g c = let s = c.args.self.now in λ i. (same_terms g.met.L.SharedLine.laws s.line.now s.seat.now s.of (Own c.own.result) c.own.new.seat c.own.ensures i).keep

pub returns-clause-look : goal.returns-clause-look
returns-clause-look g c = (g.met.L.SharedLine.laws.owes c.args.self.now.seat.now (Own c.own.result) c.own.new.seat c.own.ensures).0

pub returns-clause-own : goal.returns-clause-own
returns-clause-own g c = own_word _ _ c.own.result (g.met.L.SharedLine.laws.owes c.args.self.now.seat.now (Own c.own.result) c.own.new.seat c.own.ensures).1

pub returns-clause-form : goal.returns-clause-form
returns-clause-form g c = own_form _ _ c.own.result (g.met.L.SharedLine.laws.owes c.args.self.now.seat.now (Own c.own.result) c.own.new.seat c.own.ensures).1
