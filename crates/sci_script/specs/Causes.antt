-- Which refusal a reason is one of. This project's profile.
use Rattle.std.specs.Prelude.{◌≡◌, ℕ, Option, Some, None}
use Rattle.sci_script.specs.declared.commands.Command.{Command}
use Rattle.sci_script.specs.declared.commands.Command.TheVariants.{Begin, Turn, Done}
use Rattle.sci_script.specs.declared.reasons.Reason.{Reason}
use Rattle.sci_script.specs.declared.reasons.Reason.TheVariants.{Number, Digits, WaitsFor, Unended}
use Rattle.sci_script.specs.declared.refusals.ScriptRefusal.{ScriptRefusal}
use Rattle.sci_script.specs.declared.refusals.ScriptRefusal.TheVariants.{BadCommand, BadNumber, NotDone}

-- of the command on this line
abbrev pub refused_for : ℕ → Reason → ScriptRefusal
refused_for line (Number word low high) = BadNumber line
refused_for line (Digits word) = BadNumber line
refused_for line (WaitsFor node whom) = NotDone line
refused_for line (Unended node) = NotDone line
refused_for line reason = BadCommand line

-- a refusal has a reason, which is one of it
abbrev pub IsRefusedFor : ScriptRefusal → Option Reason → Type 0
IsRefusedFor e why = (line : ℕ) × (reason : Reason) × (why ≡ Some reason) × (e ≡ refused_for line reason)

-- so has the refusal of a call, of a turn and of `done`; other commands wait for nobody
abbrev pub HasReason : Command → ScriptRefusal → Option Reason → Type 0
HasReason (Begin node line request) e why = IsRefusedFor e why
HasReason (Turn node) e why = IsRefusedFor e why
HasReason (Done node) e why = IsRefusedFor e why
HasReason command e why = why ≡ None
