-- What the command `check` writes of a history. This project's profile.
use Rattle.std.specs.Prelude.{◌≡◌, ℕ, ◌<◌, List, [], ◌++◌, length, take, codes, Ok, Err}
use Rattle.std.specs.Fmt.{decimal}
use Rattle.std.specs.Global.{Vec}
use Rattle.sci_script.specs.declared.refusals.ScriptRefusal.TheVariants.{OutOfMemory, BadCommand, BadNumber, NotDone, WriteFailed}
use Rattle.sci_dump.specs.declared.refusals.DumpRefusal.TheVariants.{DumpFault}
use Rattle.sci_histories.specs.declared.rules.Rule.{Rule}
use Rattle.sci_histories.specs.declared.rules.Verdict.{Verdict}
use Rattle.sci_histories.specs.declared.rules.Verdict.TheVariants.{Legal, Illegal}
use Rattle.sci_histories.specs.Histories.{HistoryLines}
use Rattle.sci_histories.specs.Reading.{history_of}
use Rattle.sci_histories.specs.Rules.{IsVerdictOf, rule_number}
use Rattle.sci_serve.specs.declared.faults.SimFault.{SimFault}
use Rattle.sci_serve.specs.declared.faults.SimFault.TheVariants.{CannotRead, CannotWrite, InputTooLong, Refused, NoDump, Unlawful, NoRun}

-- `legal`, or `line L breaks HN`
abbrev pub legal_text : Verdict → List ℕ
legal_text Legal = codes "legal\n"
legal_text (Illegal number rule) = codes "line " ++ decimal number ++ codes " breaks H" ++ decimal (rule_number rule) ++ codes "\n"

-- the input is a history with this verdict, and this is the verdict's text
abbrev pub Judges : List ℕ → Verdict → List ℕ → Type 0
Judges input verdict text = (history : HistoryLines) × (history_of input ≡ Ok history) × IsVerdictOf history.lines verdict × (text ≡ legal_text verdict)

-- what is written where the command fails: all of the verdict's text where the check says no, a front of it where the writer failed,
-- and else nothing
abbrev pub StopsJudging : SimFault → List ℕ → List ℕ → Type 0
StopsJudging CannotRead input written = written ≡ []
StopsJudging CannotWrite input written = (verdict : Verdict) × (text : List ℕ) × (n : ℕ) × Judges input verdict text × (n < length text) × (written ≡ take n text)
StopsJudging InputTooLong input written = ⊥
StopsJudging (Refused OutOfMemory) input written = written ≡ []
StopsJudging (Refused (BadCommand n)) input written = ⊥
StopsJudging (Refused (BadNumber n)) input written = ⊥
StopsJudging (Refused (NotDone n)) input written = ⊥
StopsJudging (Refused WriteFailed) input written = ⊥
StopsJudging (NoDump n) input written = (history_of input ≡ Err (DumpFault n)) × (written ≡ [])
StopsJudging Unlawful input written = (number : ℕ) × (rule : Rule) × Judges input (Illegal number rule) written
StopsJudging (NoRun e) input written = ⊥

-- all of the bytes that were read
abbrev pub IsAll : Vec ℕ → List ℕ → Type 0
IsAll kept seen = kept.items ≡ seen

-- the faults of reading all of an input
abbrev pub IsUnread : SimFault → Type 0
IsUnread CannotRead = Unit {0}
IsUnread CannotWrite = ⊥
IsUnread InputTooLong = ⊥
IsUnread (Refused OutOfMemory) = Unit {0}
IsUnread (Refused (BadCommand n)) = ⊥
IsUnread (Refused (BadNumber n)) = ⊥
IsUnread (Refused (NotDone n)) = ⊥
IsUnread (Refused WriteFailed) = ⊥
IsUnread (NoDump n) = ⊥
IsUnread Unlawful = ⊥
IsUnread (NoRun e) = ⊥
