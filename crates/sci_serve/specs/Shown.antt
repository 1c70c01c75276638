-- What the command `run` writes, and where it fails. This project's profile.
use Rattle.std.specs.Prelude.{◌≡◌, ℕ, ◌<◌, ◌≤◌, List, [], length, take, Option, IfSome}
use Rattle.std.specs.Io.KnownBytes.{Appends}
use Rattle.sci_script.specs.declared.refusals.ScriptRefusal.TheVariants.{OutOfMemory, BadCommand, BadNumber, NotDone, WriteFailed}
use Rattle.sci_work.specs.declared.refusals.WorkRefusal.{WorkRefusal}
use Rattle.sci_settings.specs.declared.settings.Settings.{Settings}
use Rattle.sci_serve.specs.declared.faults.SimFault.{SimFault}
use Rattle.sci_serve.specs.declared.faults.SimFault.TheVariants.{CannotRead, CannotWrite, InputTooLong, Refused, NoDump, Unlawful, NoRun}
use Rattle.sci_serve.specs.declared.running.Shown.{Shown}
use Rattle.sci_serve.specs.Runs.{AreSettings, IsTextOf}
use Rattle.sci_serve.specs.Histories.{IsHistoryTextOf}

-- what is printed of settings
abbrev pub IsShownOf : Shown → Settings → List ℕ → Type 0
IsShownOf Shown.Result s text = IsTextOf s text
IsShownOf Shown.History s text = IsHistoryTextOf s text

-- the input is a text of settings, and this is what is printed of their run
abbrev pub Prints : Shown → List ℕ → List ℕ → Type 0
Prints shown input text = (settings : Settings) × AreSettings input settings × IsShownOf shown settings text

-- 22 says that the input is no text of settings; any other refusal comes of a run of its settings
abbrev pub IsDeclined : WorkRefusal → List ℕ → Type 0
IsDeclined WorkRefusal.OutOfMemory input = ⊥
IsDeclined WorkRefusal.BadSettings input = (length input ≤ 1048576) × ((settings : Settings) → AreSettings input settings → ⊥)
IsDeclined refusal input = (settings : Settings) × AreSettings input settings

-- what is written where the command fails: a front of the text where the writer failed, and else nothing
abbrev pub StopsPrinting : Shown → SimFault → List ℕ → List ℕ → Type 0
StopsPrinting shown CannotRead input written = written ≡ []
StopsPrinting shown CannotWrite input written = (text : List ℕ) × (n : ℕ) × Prints shown input text × (n < length text) × (written ≡ take n text)
StopsPrinting shown InputTooLong input written = (1048576 < length input) × (written ≡ [])
StopsPrinting shown (Refused OutOfMemory) input written = written ≡ []
StopsPrinting shown (Refused (BadCommand n)) input written = ⊥
StopsPrinting shown (Refused (BadNumber n)) input written = ⊥
StopsPrinting shown (Refused (NotDone n)) input written = ⊥
StopsPrinting shown (Refused WriteFailed) input written = ⊥
StopsPrinting shown (NoDump n) input written = ⊥
StopsPrinting shown Unlawful input written = ⊥
StopsPrinting shown (NoRun refusal) input written = IsDeclined refusal input × (written ≡ [])

-- what is printed of the input was written, behind what was there
abbrev pub IsPrinted : Shown → Option (List ℕ) → Option (List ℕ) → Option (List ℕ) → Type 0
IsPrinted shown input before after = IfSome input (λ i. (text : List ℕ) × Prints shown i text × Appends before after text)

-- and so was what is written where the command fails
abbrev pub IsStopped : Shown → SimFault → Option (List ℕ) → Option (List ℕ) → Option (List ℕ) → Type 0
IsStopped shown e input before after = IfSome input (λ i. (written : List ℕ) × StopsPrinting shown e i written × Appends before after written)
