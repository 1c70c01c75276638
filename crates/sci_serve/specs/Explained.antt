-- Why lines are refused, in words. This project's profile.
use Rattle.std.specs.Prelude.{◌≡◌, ◌⊎◌, ℕ, ◌<◌, ◌≤◌, Bool, true, false, ◌&&◌, List, length, Option, Some, None, Result, Ok, Err}
use Rattle.sci_script.specs.declared.reasons.Reason.{Reason}
use Rattle.sci_script.specs.declared.reasons.Reason.TheVariants.{TooLong}
use Rattle.sci_script.specs.declared.refusals.ScriptRefusal.{ScriptRefusal}
use Rattle.sci_script.specs.declared.refusals.ScriptRefusal.TheVariants.{OutOfMemory, BadCommand, BadNumber, NotDone, WriteFailed}
use Rattle.sci_script.specs.Causes.{IsRefusedFor}
use Rattle.sci_script.specs.Format.{reading_of, script_of}
use Rattle.sci_script.specs.Reasons.{IsWhyScript, IsWhySaid}
use Rattle.sci_script.specs.Talks.{Standing}
use Rattle.sci_serve.specs.declared.faults.SimFault.{SimFault}
use Rattle.sci_serve.specs.declared.faults.SimFault.TheVariants.{CannotRead, CannotWrite, InputTooLong, Refused, NoDump, Unlawful, NoRun}

-- the refusal is of a line, and so has a reason
abbrev pub is_of_line : ScriptRefusal → Bool
is_of_line OutOfMemory = false
is_of_line (BadCommand n) = true
is_of_line (BadNumber n) = true
is_of_line (NotDone n) = true
is_of_line WriteFailed = false

-- where the reader refuses the script, the reason is one of just that refusal
abbrev pub IsWhyOf : Bool → List ℕ → Option Reason → Type 0
IsWhyOf true input why = IsWhyScript (reading_of input) why × ((e : ScriptRefusal) → script_of input ≡ Err e → IsRefusedFor e why)
IsWhyOf false input why = why ≡ None

-- of a script
abbrev pub IsExplained : SimFault → List ℕ → Option Reason → Type 0
IsExplained CannotRead input why = why ≡ None
IsExplained CannotWrite input why = why ≡ None
IsExplained InputTooLong input why = why ≡ None
IsExplained (Refused e) input why = IsWhyOf (is_of_line e) input why
IsExplained (NoDump n) input why = why ≡ None
IsExplained Unlawful input why = why ≡ None
IsExplained (NoRun e) input why = why ≡ None

-- of a line of a talk, as that stands behind its refusal
abbrev pub IsExplainedIn : Standing → List ℕ → Option Reason → Type 0
IsExplainedIn s line why = ((1048576 < length line) × (why ≡ Some TooLong)) ⊎ ((length line ≤ 1048576) × IsWhySaid s line why)

-- the answer to a line refuses it, and so has a reason
abbrev pub has_reason : Result Unit ScriptRefusal → Bool
has_reason (Ok done) = false
has_reason (Err e) = is_of_line e

abbrev pub IsToldBy : Bool → Standing → List ℕ → Option Reason → Type 0
IsToldBy true s line why = IsExplainedIn s line why
IsToldBy false s line why = why ≡ None

-- what is told of a line that was answered: nothing unless it is wanted, and the answer has a reason
abbrev pub IsToldOf : Bool → Result Unit ScriptRefusal → Standing → List ℕ → Option Reason → Type 0
IsToldOf is_wanted said s line why = IsToldBy (is_wanted && has_reason said) s line why
