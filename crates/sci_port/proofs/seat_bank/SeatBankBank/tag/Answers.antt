use borrow.Author.Rules.{scaled_Fits}
use Rattle.std.proofs.Common.{rules, ◌<◌, refl, ap, get_or}
use Rattle.sci_port.specs.declared.calls.Call.TheVariants.{TagWas}
use Rattle.sci_port.proofs.Banked.{written_back}
use Rattle.sci_port.proofs.Seated.{same_steps}
use Rattle.sci_port.proofs.SeatBanked.{gives, inside, near, of_line, sit_after, there}
use Rattle.sci_port.proofs.SeatReceipts.{all_stay, with_receipts}
use Rattle.sci_port.proofs.seat_bank.SeatBankBank.tag.Goals as goal

pub tag-requires-clause-of : goal.tag-requires-clause-of
tag-requires-clause-of g c = of_line g.met.L.SharedLine.laws c.args.self.now.of c.args.line c.requires.line c.from-2.result c.index-seats-from.result (get_or c.as_mut_slice-seats.result.now c.from-2.result c.index-seats-from.result) c.from-2.ensures (ap (λ l. get_or l c.from-2.result c.index-seats-from.result) c.as_mut_slice-seats.ensures.value) c.from.result c.index-self-from.result (get_or c.args.self.now.lines.now c.from.result c.index-self-from.result) c.from.ensures refl

pub tag-requires-clause-node : goal.tag-requires-clause-node
tag-requires-clause-node g c = there g.met.L.SharedLine.laws c.args.self.now.of c.args.line c.requires.line c.from-2.result c.index-seats-from.result (get_or c.as_mut_slice-seats.result.now c.from-2.result c.index-seats-from.result) c.from-2.ensures (ap (λ l. get_or l c.from-2.result c.index-seats-from.result) c.as_mut_slice-seats.ensures.value) (λ n k m me. c.args.node < n) c.requires.node

pub invariant_of-self : goal.invariant_of-self
invariant_of-self g c = record { of = sit_after g.met.L.SharedLine.laws c.args.self.now.of c.args.line c.requires.line c.from-2.result c.index-seats-from.result (get_or c.as_mut_slice-seats.result.now c.from-2.result c.index-seats-from.result) c.from-2.ensures (ap (λ l. get_or l c.from-2.result c.index-seats-from.result) c.as_mut_slice-seats.ensures.value) (TagWas c.args.node c.tag.result) c.tag.new.seat c.tag.ensures _ (written_back c.args.self.now.seats.items c.as_mut_slice-seats.result.now c.args.self.now.seats.len c.from-2.result c.tag.new.seat c.as_mut_slice-seats.ensures.value c.as_mut_slice-seats.ensures.len) }

pub returns-clause-gives : goal.returns-clause-gives
returns-clause-gives g c = with_receipts g.met.L.SharedLine.kept (near g.met.L.SharedLine.laws c.args.self.now.of c.args.line c.requires.line) refl (gives g.met.L.SharedLine.laws c.args.self.now.of c.args.line c.requires.line c.from-2.result c.index-seats-from.result (get_or c.as_mut_slice-seats.result.now c.from-2.result c.index-seats-from.result) c.from-2.ensures (ap (λ l. get_or l c.from-2.result c.index-seats-from.result) c.as_mut_slice-seats.ensures.value) (TagWas c.args.node c.tag.result) c.tag.new.seat c.tag.ensures _ (written_back c.args.self.now.seats.items c.as_mut_slice-seats.result.now c.args.self.now.seats.len c.from-2.result c.tag.new.seat c.as_mut_slice-seats.ensures.value c.as_mut_slice-seats.ensures.len))

pub returns-clause-same_steps : goal.returns-clause-same_steps
returns-clause-same_steps g c = same_steps (returns-clause-gives g c).2 (returns-clause-gives g c).2.owes.0

pub returns-clause-form : goal.returns-clause-form
returns-clause-form g c = (returns-clause-gives g c).2.owes.1

pub bounds-self-from : goal.bounds-self-from
bounds-self-from g c = rw c.from.ensures (inside g.met.L.SharedLine.laws c.args.self.now.of c.args.line c.requires.line)

pub offset_bounds-self-from : goal.offset_bounds-self-from
offset_bounds-self-from g c = scaled_Fits _ _ _ (bounds-self-from g c) (search rules)

pub bounds-seats-from : goal.bounds-seats-from
bounds-seats-from g c = rw (c.as_mut_slice-seats.ensures.value, c.from-2.ensures) (near g.met.L.SharedLine.laws c.args.self.now.of c.args.line c.requires.line)

pub offset_bounds-seats-from : goal.offset_bounds-seats-from
offset_bounds-seats-from g c = scaled_Fits _ _ _ (bounds-seats-from g c) (search rules)

pub returns-clause-same_way : goal.returns-clause-same_way
returns-clause-same_way g c = refl

pub returns-clause-same_nodes : goal.returns-clause-same_nodes
returns-clause-same_nodes g c = λ m. refl

pub returns-clause-same_fact : goal.returns-clause-same_fact
returns-clause-same_fact g c = refl

pub returns-clause-same_receipts : goal.returns-clause-same_receipts
returns-clause-same_receipts g c = all_stay (returns-clause-gives g c).3 ((returns-clause-gives g c).3.here.kept tt)
