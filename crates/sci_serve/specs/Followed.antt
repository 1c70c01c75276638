-- What the command `check` writes of a log. This project's profile.
use Rattle.std.specs.Prelude.{◌≡◌, ◌⊎◌, ℕ, ◌<◌, List, [], ◌++◌, length, take, Option, None, codes}
use Rattle.std.specs.Fmt.{decimal}
use Rattle.sci_script.specs.declared.refusals.ScriptRefusal.TheVariants.{OutOfMemory, BadCommand, BadNumber, NotDone, WriteFailed}
use Rattle.sci_logs.specs.declared.entries.Deviation.{Deviation}
use Rattle.sci_logs.specs.declared.logs.LogFault.{LogFault}
use Rattle.sci_logs.specs.declared.parts.LineReason.{LineReason}
use Rattle.sci_logs.specs.Reasons.{FaultsWhy}
use Rattle.sci_logs.specs.Streams.{FollowsAll, FaultsWith}
use Rattle.sci_serve.specs.declared.faults.SimFault.{SimFault}
use Rattle.sci_serve.specs.declared.faults.SimFault.TheVariants.{CannotRead, CannotWrite, InputTooLong, Refused, NoDump, Unlawful, NoRun}

-- why no lawful line answers so
abbrev pub reason : Deviation → List ℕ
reason Deviation.NotInTurn = codes "not in turn"
reason Deviation.AnotherWord = codes "another word stood there"
reason Deviation.AnotherLine = codes "another line is answered"
reason Deviation.CannotBe = codes "it can't end so"

-- `line K: WHY`
abbrev pub departure_line : ℕ → Deviation → List ℕ
departure_line number why = codes "line " ++ decimal number ++ codes ": " ++ reason why ++ codes "\n"

-- the input is a log that is a run of the table, or else the first line that no lawful line answers so
abbrev pub IsFollowed : List ℕ → List ℕ → Type 0
IsFollowed input text = (FollowsAll input × (text ≡ codes "follows\n"))
    ⊎ ((number : ℕ) × (why : Deviation) × FaultsWith (LogFault.Departs number why) input × (text ≡ departure_line number why))

-- what is written where the command fails: the line that is no run, a front of a text where the writer failed, and else nothing
abbrev pub StopsFollowing : SimFault → List ℕ → List ℕ → Type 0
StopsFollowing CannotRead input written = written ≡ []
StopsFollowing CannotWrite input written = (text : List ℕ) × (n : ℕ) × IsFollowed input text × (n < length text) × (written ≡ take n text)
StopsFollowing InputTooLong input written = ⊥
StopsFollowing (Refused OutOfMemory) input written = written ≡ []
StopsFollowing (Refused (BadCommand n)) input written = FaultsWith (LogFault.BadLine n) input × (written ≡ [])
StopsFollowing (Refused (BadNumber n)) input written = FaultsWith (LogFault.BadNumber n) input × (written ≡ [])
StopsFollowing (Refused (NotDone n)) input written = ⊥
StopsFollowing (Refused WriteFailed) input written = ⊥
StopsFollowing (NoDump n) input written = ⊥
StopsFollowing Unlawful input written = (number : ℕ) × (why : Deviation) × FaultsWith (LogFault.Departs number why) input × (written ≡ departure_line number why)
StopsFollowing (NoRun e) input written = ⊥

-- why a line of the log is refused, of a refusal of one alone
abbrev pub IsWhyUnfollowed : SimFault → Option LineReason → List ℕ → Type 0
IsWhyUnfollowed (Refused (BadCommand n)) why input = FaultsWhy (LogFault.BadLine n) why input
IsWhyUnfollowed (Refused (BadNumber n)) why input = FaultsWhy (LogFault.BadNumber n) why input
IsWhyUnfollowed fault why input = why ≡ None
