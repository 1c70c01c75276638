use borrow.Author.Rules.{scaled_Fits}
use Rattle.std.specs.Prelude.{is_ok}
use Rattle.std.proofs.Common.{rules, refl, ap, get_or, None}
use Rattle.sci_port.specs.declared.calls.Call.TheVariants.{MemWas}
use Rattle.sci_port.specs.Readying.Readying.{Aimed, Reserved}
use Rattle.sci_port.proofs.Banked.{written_back}
use Rattle.sci_port.proofs.SeatBanked.{gives, near, sit_after}
use Rattle.sci_port.proofs.SeatReceipts.{ready_laws, with_ready}
use Rattle.sci_port.proofs.seat_bank.SeatBankBank.aim.Goals as goal

pub invariant_of-self : goal.invariant_of-self
invariant_of-self g c = record { of = sit_after (ready_laws g.met.L.SharedLine.kept g.met.L.SharedLine.laws (Aimed c.args.passing)) c.args.self.now.of c.args.line c.requires c.from.result c.index-seats-from.result (get_or c.as_mut_slice-seats.result.now c.from.result c.index-seats-from.result) c.from.ensures (ap (λ l. get_or l c.from.result c.index-seats-from.result) c.as_mut_slice-seats.ensures.value) (MemWas None) c.seat_aim.new.seat (refl, c.seat_aim.ensures) _ (written_back c.args.self.now.seats.items c.as_mut_slice-seats.result.now c.args.self.now.seats.len c.from.result c.seat_aim.new.seat c.as_mut_slice-seats.ensures.value c.as_mut_slice-seats.ensures.len) }

pub returns-clause-readies : goal.returns-clause-readies
returns-clause-readies g c = with_ready g.met.L.SharedLine.kept g.met.L.SharedLine.laws (Aimed c.args.passing) (near g.met.L.SharedLine.laws c.args.self.now.of c.args.line c.requires) refl (gives (ready_laws g.met.L.SharedLine.kept g.met.L.SharedLine.laws (Aimed c.args.passing)) c.args.self.now.of c.args.line c.requires c.from.result c.index-seats-from.result (get_or c.as_mut_slice-seats.result.now c.from.result c.index-seats-from.result) c.from.ensures (ap (λ l. get_or l c.from.result c.index-seats-from.result) c.as_mut_slice-seats.ensures.value) (MemWas None) c.seat_aim.new.seat (refl, c.seat_aim.ensures) _ (written_back c.args.self.now.seats.items c.as_mut_slice-seats.result.now c.args.self.now.seats.len c.from.result c.seat_aim.new.seat c.as_mut_slice-seats.ensures.value c.as_mut_slice-seats.ensures.len))

pub returns-clause-same_steps : goal.returns-clause-same_steps
returns-clause-same_steps g c = (returns-clause-readies g c).2.steps

pub returns-clause-aims : goal.returns-clause-aims
returns-clause-aims g c = (returns-clause-readies g c).3

pub bounds-seats-from : goal.bounds-seats-from
bounds-seats-from g c = rw (c.as_mut_slice-seats.ensures.value, c.from.ensures) (near g.met.L.SharedLine.laws c.args.self.now.of c.args.line c.requires)

pub offset_bounds-seats-from : goal.offset_bounds-seats-from
offset_bounds-seats-from g c = scaled_Fits _ _ _ (bounds-seats-from g c) (search rules)
