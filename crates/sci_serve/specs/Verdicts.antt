-- What the command `check` writes of a dump. This project's profile.
use Rattle.std.specs.Prelude.{◌≡◌, ℕ, ◌+◌, ◌<◌, ◌≤◌, List, [], ◌∷◌, ◌++◌, length, map, take, codes, Ok, Err}
use Rattle.std.specs.Fmt.{decimal}
use Rattle.sci_words.specs.declared.tags.Tag.{Tag}
use Rattle.sci_core.specs.Closed.{ClosedLine}
use Rattle.sci_script.specs.Text.{list_line}
use Rattle.sci_script.specs.declared.refusals.ScriptRefusal.TheVariants.{OutOfMemory, BadCommand, BadNumber, NotDone, WriteFailed}
use Rattle.sci_dump.specs.declared.checking.Rule.{Rule}
use Rattle.sci_dump.specs.declared.checking.Verdict.{Verdict}
use Rattle.sci_dump.specs.declared.checking.Verdict.TheVariants.{Lawful, Unlawful}
use Rattle.sci_dump.specs.declared.refusals.DumpRefusal.TheVariants.{DumpFault}
use Rattle.sci_dump.specs.Dumps.{DumpLines}
use Rattle.sci_dump.specs.Reading.{dump_of}
use Rattle.sci_dump.specs.Rules.{tag, KeepsEnding, IsVerdictOf, rule_number}
use Rattle.sci_serve.specs.declared.faults.SimFault.{SimFault}
use Rattle.sci_serve.specs.declared.faults.SimFault.TheVariants.{CannotRead, CannotWrite, InputTooLong, Refused, NoDump, Unlawful as SaysNo, NoRun}

-- an entry of the sharing list: a node and its tag
abbrev pub entry : ClosedLine → ℕ → ℕ × Tag
entry c node = (node, tag c node)

-- the list line of a closed line, whose sharing list has these nodes
abbrev pub list_of : ℕ → ClosedLine → List ℕ → List ℕ
list_of number c nodes = list_line number c.mem (map (entry c) nodes)

-- the list line of a closed line whose forward links end
abbrev pub IsListOf : ℕ → ClosedLine → List ℕ → Type 0
IsListOf number c text = (nodes : List ℕ) × KeepsEnding c nodes × (text ≡ list_of number c nodes)

-- the list lines of closed lines, of which the first has this number
unfoldable pub AreListsOf : ℕ → List ClosedLine → List ℕ → Type 0
AreListsOf number [] text = text ≡ []
AreListsOf number (c ∷ cs) text = (first rest : List ℕ) × IsListOf number c first × AreListsOf (number + 1) cs rest × (text ≡ first ++ rest)

-- `line L breaks CN`
abbrev pub unlawful_line : ℕ → Rule → List ℕ
unlawful_line number rule = codes "line " ++ decimal number ++ codes " breaks C" ++ decimal (rule_number rule) ++ codes "\n"

-- of a lawful dump each line's list line and `lawful`, else the first line and rule that is broken
abbrev pub IsTextOf : List ClosedLine → Verdict → List ℕ → Type 0
IsTextOf cs Lawful text = (lists : List ℕ) × AreListsOf 0 cs lists × (text ≡ lists ++ codes "lawful\n")
IsTextOf cs (Unlawful number rule) text = text ≡ unlawful_line number rule

-- the input is a dump with this verdict, and this is the verdict's text
abbrev pub Checks : List ℕ → Verdict → List ℕ → Type 0
Checks input verdict text = (length input ≤ 1048576) × (dump : DumpLines) × (dump_of input ≡ Ok dump) × IsVerdictOf dump.lines verdict × IsTextOf dump.lines verdict text

-- what is written where the command fails: all of the verdict's text where the check says no, a front of a verdict's text where the
-- writer failed, and else nothing
abbrev pub StopsChecking : SimFault → List ℕ → List ℕ → Type 0
StopsChecking CannotRead input written = written ≡ []
StopsChecking CannotWrite input written = (verdict : Verdict) × (text : List ℕ) × (n : ℕ) × Checks input verdict text × (n < length text) × (written ≡ take n text)
StopsChecking InputTooLong input written = (1048576 < length input) × (written ≡ [])
StopsChecking (Refused OutOfMemory) input written = written ≡ []
StopsChecking (Refused (BadCommand n)) input written = ⊥
StopsChecking (Refused (BadNumber n)) input written = ⊥
StopsChecking (Refused (NotDone n)) input written = ⊥
StopsChecking (Refused WriteFailed) input written = ⊥
StopsChecking (NoDump n) input written = (length input ≤ 1048576) × (dump_of input ≡ Err (DumpFault n)) × (written ≡ [])
StopsChecking SaysNo input written = (number : ℕ) × (rule : Rule) × Checks input (Unlawful number rule) written
StopsChecking (NoRun e) input written = ⊥
