-- What the command `check --large` writes of a dump, line by line. This project's profile.
use Rattle.std.specs.Prelude.{◌≡◌, ◌⊎◌, ℕ, ◌<◌, List, [], ◌∷◌, ◌++◌, length, take, codes, Ok, Err, Option, Some, None}
use Rattle.std.specs.Io.KnownBytes.{Appends}
use Rattle.sci_core.specs.Closed.{ClosedLine}
use Rattle.sci_script.specs.declared.refusals.ScriptRefusal.TheVariants.{OutOfMemory, BadCommand, BadNumber, NotDone, WriteFailed}
use Rattle.sci_dump.specs.declared.checking.Rule.{Rule}
use Rattle.sci_dump.specs.declared.checking.Verdict.{Verdict}
use Rattle.sci_dump.specs.declared.checking.Verdict.TheVariants.{Lawful, Unlawful}
use Rattle.sci_dump.specs.declared.refusals.DumpRefusal.TheVariants as refusals
use Rattle.sci_dump.specs.declared.streams.StreamFault.{StreamFault}
use Rattle.sci_dump.specs.declared.streams.StreamFault.TheVariants as streams
use Rattle.sci_dump.specs.Dumps.{DumpLines}
use Rattle.sci_dump.specs.Reading.{dump_of}
use Rattle.sci_dump.specs.Rules.{IsVerdictOf}
use Rattle.sci_dump.specs.Streams.{lines_before_fault}
use Rattle.sci_reasons.specs.Reasons.{fault_of}
use Rattle.sci_reasons.specs.declared.reasons.RowFault.{RowFault}
use Rattle.sci_serve.specs.declared.faults.SimFault.{SimFault}
use Rattle.sci_serve.specs.declared.faults.SimFault.TheVariants.{CannotRead, CannotWrite, InputTooLong, Refused, NoDump, Unlawful as SaysNo, NoRun}
use Rattle.sci_serve.specs.Verdicts.{AreListsOf, unlawful_line}

abbrev pub stream_fault_of : StreamFault → SimFault
stream_fault_of streams.OutOfMemory = Refused OutOfMemory
stream_fault_of (streams.DumpFault row) = NoDump row.number
stream_fault_of streams.CannotRead = CannotRead

abbrev pub stream_reason_of : StreamFault → Option RowFault
stream_reason_of (streams.DumpFault row) = Some (fault_of row)
stream_reason_of e = None

-- each line's list line, up to the first line that is unlawful, and which rule that breaks
abbrev pub IsToldOf : List ClosedLine → Verdict → List ℕ → Type 0
IsToldOf cs Lawful text = AreListsOf 0 cs text
IsToldOf cs (Unlawful number rule) text = (lists : List ℕ) × AreListsOf 0 (take number cs) lists × (text ≡ lists ++ unlawful_line number rule)

-- the verdict on these lines, and what is told of them
abbrev pub IsTold : List ClosedLine → Verdict → List ℕ → Type 0
IsTold cs verdict text = IsVerdictOf cs verdict × IsToldOf cs verdict text

-- one line more is told by these bytes
abbrev pub Tells : Verdict → ℕ → ClosedLine → Verdict → List ℕ → Type 0
Tells before number c verdict more = (cs : List ClosedLine) (text : List ℕ) → length cs ≡ number → IsTold cs before text → IsTold (cs ++ c ∷ []) verdict (text ++ more)

-- why a line isn't told, and what is written of it
abbrev pub FailsTelling : SimFault → Verdict → ℕ → ClosedLine → Option (List ℕ) → Option (List ℕ) → Type 0
FailsTelling e before number c old new = ((e ≡ Refused OutOfMemory) × Appends old new [])
    ⊎ ((e ≡ CannotWrite) × (verdict : Verdict) × (more : List ℕ) × (n : ℕ) × Tells before number c verdict more × (n < length more) × Appends old new (take n more))

-- what is written behind the lines of a dump that isn't lawful: nothing; or where the writer failed
abbrev pub FailsConcluding : SimFault → Verdict → Option (List ℕ) → Option (List ℕ) → Type 0
FailsConcluding e verdict old new = ((e ≡ SaysNo) × (number : ℕ) × (rule : Rule) × (verdict ≡ Unlawful number rule) × Appends old new [])
    ⊎ ((e ≡ CannotWrite) × (verdict ≡ Lawful) × (n : ℕ) × (n < length (codes "lawful\n")) × Appends old new (take n (codes "lawful\n")))

-- the input is a dump with this verdict, and this is told of its lines
abbrev pub ChecksLarge : List ℕ → Verdict → List ℕ → Type 0
ChecksLarge input verdict text = (dump : DumpLines) × (dump_of input ≡ Ok dump) × IsTold dump.lines verdict text

-- what is told of the first lines of an input
abbrev pub IsToldUpTo : List ℕ → List ℕ → Type 0
IsToldUpTo input text = (k : ℕ) × (verdict : Verdict) × IsTold (take k (lines_before_fault input)) verdict text

-- what is written of an input up to some line, or of a lawful dump
abbrev pub IsLargeText : List ℕ → List ℕ → Type 0
IsLargeText input text = IsToldUpTo input text ⊎ ((lists : List ℕ) × ChecksLarge input Lawful lists × (text ≡ lists ++ codes "lawful\n"))

-- what is written where the command fails: what is told of the lines that were read; all of them where the check says no, or the text
-- is no dump; and a front where the writer failed
abbrev pub StopsLarge : SimFault → List ℕ → List ℕ → Type 0
StopsLarge CannotRead input written = IsToldUpTo input written
StopsLarge CannotWrite input written = (text : List ℕ) × (n : ℕ) × IsLargeText input text × (n < length text) × (written ≡ take n text)
StopsLarge InputTooLong input written = ⊥
StopsLarge (Refused OutOfMemory) input written = IsToldUpTo input written
StopsLarge (Refused (BadCommand n)) input written = ⊥
StopsLarge (Refused (BadNumber n)) input written = ⊥
StopsLarge (Refused (NotDone n)) input written = ⊥
StopsLarge (Refused WriteFailed) input written = ⊥
StopsLarge (NoDump n) input written = (dump_of input ≡ Err (refusals.DumpFault n)) × (verdict : Verdict) × IsTold (lines_before_fault input) verdict written
StopsLarge SaysNo input written = (number : ℕ) × (rule : Rule) × ChecksLarge input (Unlawful number rule) written
StopsLarge (NoRun e) input written = ⊥

-- why a line of text is refused: told of that line, where one is
abbrev pub IsWhyStopped : SimFault → Option RowFault → Type 0
IsWhyStopped (NoDump n) why = (fault : RowFault) × (why ≡ Some fault) × (fault.line ≡ n)
IsWhyStopped e why = why ≡ None
