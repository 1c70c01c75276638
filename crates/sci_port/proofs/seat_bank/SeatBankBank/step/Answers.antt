use borrow.Author.Rules.{scaled_Fits}
use Rattle.std.proofs.Common.{rules, refl, ap, get_or}
use Rattle.sci_core.specs.Answers.{FitsEvent}
use Rattle.sci_port.specs.declared.calls.Call.TheVariants.{Stepped}
use Rattle.sci_port.proofs.Banked.{written_back}
use Rattle.sci_port.proofs.SeatBanked.{allowed_there, gives, inside, near, of_line, sit_after, there}
use Rattle.sci_port.proofs.SeatReceipts.{with_receipts}
use Rattle.sci_port.proofs.seat_bank.SeatBankBank.step.Goals as goal

pub step-requires-clause-of : goal.step-requires-clause-of
step-requires-clause-of g c = of_line g.met.L.SharedLine.laws c.args.self.now.of c.args.line c.requires.line c.from-2.result c.index-seats-from.result (get_or c.as_mut_slice-seats.result.now c.from-2.result c.index-seats-from.result) c.from-2.ensures (ap (λ l. get_or l c.from-2.result c.index-seats-from.result) c.as_mut_slice-seats.ensures.value) c.from.result c.index-self-from.result (get_or c.args.self.now.lines.now c.from.result c.index-self-from.result) c.from.ensures refl

pub step-requires-clause-allowed : goal.step-requires-clause-allowed
step-requires-clause-allowed g c = allowed_there g.met.L.SharedLine.laws c.args.self.now.of c.args.line c.requires.line c.from-2.result c.index-seats-from.result (get_or c.as_mut_slice-seats.result.now c.from-2.result c.index-seats-from.result) c.from-2.ensures (ap (λ l. get_or l c.from-2.result c.index-seats-from.result) c.as_mut_slice-seats.ensures.value) c.args.event c.requires.allowed

pub step-requires-clause-fits : goal.step-requires-clause-fits
step-requires-clause-fits g c = there g.met.L.SharedLine.laws c.args.self.now.of c.args.line c.requires.line c.from-2.result c.index-seats-from.result (get_or c.as_mut_slice-seats.result.now c.from-2.result c.index-seats-from.result) c.from-2.ensures (ap (λ l. get_or l c.from-2.result c.index-seats-from.result) c.as_mut_slice-seats.ensures.value) (λ n k m me. FitsEvent (g.L.Keep.Keeps.fits k m) c.args.event) c.requires.fits

pub invariant_of-self : goal.invariant_of-self
invariant_of-self g c = record { of = sit_after g.met.L.SharedLine.laws c.args.self.now.of c.args.line c.requires.line c.from-2.result c.index-seats-from.result (get_or c.as_mut_slice-seats.result.now c.from-2.result c.index-seats-from.result) c.from-2.ensures (ap (λ l. get_or l c.from-2.result c.index-seats-from.result) c.as_mut_slice-seats.ensures.value) (Stepped c.args.event c.step.result) c.step.new.seat c.step.ensures _ (written_back c.args.self.now.seats.items c.as_mut_slice-seats.result.now c.args.self.now.seats.len c.from-2.result c.step.new.seat c.as_mut_slice-seats.ensures.value c.as_mut_slice-seats.ensures.len) }

pub returns-clause-gives : goal.returns-clause-gives
returns-clause-gives g c = with_receipts g.met.L.SharedLine.kept (near g.met.L.SharedLine.laws c.args.self.now.of c.args.line c.requires.line) refl (gives g.met.L.SharedLine.laws c.args.self.now.of c.args.line c.requires.line c.from-2.result c.index-seats-from.result (get_or c.as_mut_slice-seats.result.now c.from-2.result c.index-seats-from.result) c.from-2.ensures (ap (λ l. get_or l c.from-2.result c.index-seats-from.result) c.as_mut_slice-seats.ensures.value) (Stepped c.args.event c.step.result) c.step.new.seat c.step.ensures _ (written_back c.args.self.now.seats.items c.as_mut_slice-seats.result.now c.args.self.now.seats.len c.from-2.result c.step.new.seat c.as_mut_slice-seats.ensures.value c.as_mut_slice-seats.ensures.len))

pub returns-clause-others : goal.returns-clause-others
returns-clause-others g c = (returns-clause-gives g c).2.others

pub returns-clause-row : goal.returns-clause-row
returns-clause-row g c = (returns-clause-gives g c).2.owes.1

pub returns-clause-content : goal.returns-clause-content
returns-clause-content g c = (returns-clause-gives g c).2.owes.2

pub bounds-self-from : goal.bounds-self-from
bounds-self-from g c = rw c.from.ensures (inside g.met.L.SharedLine.laws c.args.self.now.of c.args.line c.requires.line)

pub offset_bounds-self-from : goal.offset_bounds-self-from
offset_bounds-self-from g c = scaled_Fits _ _ _ (bounds-self-from g c) (search rules)

pub bounds-seats-from : goal.bounds-seats-from
bounds-seats-from g c = rw (c.as_mut_slice-seats.ensures.value, c.from-2.ensures) (near g.met.L.SharedLine.laws c.args.self.now.of c.args.line c.requires.line)

pub offset_bounds-seats-from : goal.offset_bounds-seats-from
offset_bounds-seats-from g c = scaled_Fits _ _ _ (bounds-seats-from g c) (search rules)

pub returns-clause-same_way : goal.returns-clause-same_way
returns-clause-same_way g c = refl

pub returns-clause-same_nodes : goal.returns-clause-same_nodes
returns-clause-same_nodes g c = λ m. refl

pub returns-clause-same_fact : goal.returns-clause-same_fact
returns-clause-same_fact g c = refl

pub returns-clause-receipts : goal.returns-clause-receipts
returns-clause-receipts g c = (returns-clause-gives g c).3
