use borrow.Author.Rules.{scaled_Fits}
use Rattle.std.proofs.Common.{rules, refl, ap, get_or}
use Rattle.sci_port.specs.declared.calls.Call.TheVariants.{Own}
use Rattle.sci_port.proofs.Banked.{written_back}
use Rattle.sci_port.proofs.Seated.{own_form, own_word}
use Rattle.sci_port.proofs.SeatBanked.{gives, inside, near, of_line, sit_after}
use Rattle.sci_port.proofs.SeatReceipts.{all_stay, with_receipts}
use Rattle.sci_port.proofs.seat_bank.SeatBankBank.own.Goals as goal

pub own-requires : goal.own-requires
own-requires g c = of_line g.met.L.SharedLine.laws c.args.self.now.of c.args.line c.requires c.from-2.result c.index-seats-from.result (get_or c.as_mut_slice-seats.result.now c.from-2.result c.index-seats-from.result) c.from-2.ensures (ap (λ l. get_or l c.from-2.result c.index-seats-from.result) c.as_mut_slice-seats.ensures.value) c.from.result c.index-self-from.result (get_or c.args.self.now.lines.now c.from.result c.index-self-from.result) c.from.ensures refl

pub invariant_of-self : goal.invariant_of-self
invariant_of-self g c = record { of = sit_after g.met.L.SharedLine.laws c.args.self.now.of c.args.line c.requires c.from-2.result c.index-seats-from.result (get_or c.as_mut_slice-seats.result.now c.from-2.result c.index-seats-from.result) c.from-2.ensures (ap (λ l. get_or l c.from-2.result c.index-seats-from.result) c.as_mut_slice-seats.ensures.value) (Own c.own.result) c.own.new.seat c.own.ensures _ (written_back c.args.self.now.seats.items c.as_mut_slice-seats.result.now c.args.self.now.seats.len c.from-2.result c.own.new.seat c.as_mut_slice-seats.ensures.value c.as_mut_slice-seats.ensures.len) }

pub returns-clause-gives : goal.returns-clause-gives
returns-clause-gives g c = with_receipts g.met.L.SharedLine.kept (near g.met.L.SharedLine.laws c.args.self.now.of c.args.line c.requires) refl (gives g.met.L.SharedLine.laws c.args.self.now.of c.args.line c.requires c.from-2.result c.index-seats-from.result (get_or c.as_mut_slice-seats.result.now c.from-2.result c.index-seats-from.result) c.from-2.ensures (ap (λ l. get_or l c.from-2.result c.index-seats-from.result) c.as_mut_slice-seats.ensures.value) (Own c.own.result) c.own.new.seat c.own.ensures _ (written_back c.args.self.now.seats.items c.as_mut_slice-seats.result.now c.args.self.now.seats.len c.from-2.result c.own.new.seat c.as_mut_slice-seats.ensures.value c.as_mut_slice-seats.ensures.len))

pub returns-clause-others : goal.returns-clause-others
returns-clause-others g c = (returns-clause-gives g c).2.others

pub returns-clause-look : goal.returns-clause-look
returns-clause-look g c = (returns-clause-gives g c).2.owes.0

pub returns-clause-own : goal.returns-clause-own
returns-clause-own g c = own_word _ _ c.own.result (returns-clause-gives g c).2.owes.1

pub returns-clause-form : goal.returns-clause-form
returns-clause-form g c = own_form _ _ c.own.result (returns-clause-gives g c).2.owes.1

pub bounds-self-from : goal.bounds-self-from
bounds-self-from g c = rw c.from.ensures (inside g.met.L.SharedLine.laws c.args.self.now.of c.args.line c.requires)

pub offset_bounds-self-from : goal.offset_bounds-self-from
offset_bounds-self-from g c = scaled_Fits _ _ _ (bounds-self-from g c) (search rules)

pub bounds-seats-from : goal.bounds-seats-from
bounds-seats-from g c = rw (c.as_mut_slice-seats.ensures.value, c.from-2.ensures) (near g.met.L.SharedLine.laws c.args.self.now.of c.args.line c.requires)

pub offset_bounds-seats-from : goal.offset_bounds-seats-from
offset_bounds-seats-from g c = scaled_Fits _ _ _ (bounds-seats-from g c) (search rules)

pub returns-clause-same_way : goal.returns-clause-same_way
returns-clause-same_way g c = refl

pub returns-clause-same_nodes : goal.returns-clause-same_nodes
returns-clause-same_nodes g c = λ m. refl

pub returns-clause-same_fact : goal.returns-clause-same_fact
returns-clause-same_fact g c = refl

pub returns-clause-same_receipts : goal.returns-clause-same_receipts
returns-clause-same_receipts g c = all_stay (returns-clause-gives g c).3 ((returns-clause-gives g c).3.here.kept tt)
