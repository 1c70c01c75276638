-- A bank to which no line is ever to be had.
use Rattle.std.proofs.Common.{◌≡◌, ℕ, Some, None, true, refl, sym, subst}
use Rattle.sci_core.specs.declared.events.Event.{Event}
use Rattle.sci_core.specs.declared.outcomes.Outcome.{Outcome}
use Rattle.sci_core.specs.declared.pending.Pending.{Pending}
use Rattle.sci_core.specs.Answers.{is_allowed}
use Rattle.sci_core.specs.State.{invalid}
use Rattle.sci_port.specs.Owes.{IsSoundStep, TakesRow, Owes}
use Rattle.sci_port.specs.ReceiptList.{ReceiptList, ReceivesIfRoom}
use Rattle.sci_port.specs.declared.calls.Call.TheVariants.{Stepped}

-- a step that is not heard leaves the pending step
pub busy_row : (n me : ℕ) (p : Pending) (e : Event) → TakesRow n me p e Outcome.Busy p
busy_row n me p Event.Look = refl
busy_row n me p _ = refl

pub owes_busy : (n me : ℕ) (p : Pending) (e : Event) → is_allowed n me p e ≡ true → Owes n (λ _. Unit {0}) me p (Stepped e Outcome.Busy) p
owes_busy n me p e may = (may, busy_row n me p e, tt)

-- a node in no step may be Invalid
pub idle_sound : (n : ℕ) (p : Pending) → p ≡ Pending.Idle → IsSoundStep n (λ _. Unit {0}) p
idle_sound n p e = subst (λ (q : Pending). IsSoundStep n (λ _. Unit {0}) q) (sym e) (record { word = invalid; own = refl; form = (refl, refl); fit = tt })

-- and it has no receipt
pub keeps_busy : (p : Pending) (e : Event) (s : ReceiptList) → ReceivesIfRoom p (Stepped e Outcome.Busy) s s
keeps_busy p Event.Unhold s = record { kept = λ k. refl; full = λ k. refl }
keeps_busy p Event.Settle s = record { kept = λ k. refl; full = λ k. refl }
keeps_busy p (Event.Written (Some words)) s = record { kept = λ k. refl; full = λ k. refl }
keeps_busy p (Event.Written None) s = record { kept = λ k. refl; full = λ k. refl }
keeps_busy p _ s = record { kept = λ k. refl; full = λ k. refl }
