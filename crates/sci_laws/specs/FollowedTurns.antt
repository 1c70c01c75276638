-- A turn, told as a log tells it, and followed. This project's profile.
use Rattle.std.specs.Prelude.{◌≡◌, ◌≢◌, ◌⊎◌, ℕ, true, List, [], ◌∷◌, ◌++◌, Option, Some, None, Result, Ok, Err, replicate}
use Rattle.sci_core.specs.State.{State}
use Rattle.sci_logs.specs.declared.entries.Deviation.{Deviation}
use Rattle.sci_logs.specs.declared.told.Noted.{Noted}
use Rattle.sci_logs.specs.LineText.{noted_at}
use Rattle.sci_logs.specs.declared.logs.LogFault.{LogFault}
use Rattle.sci_logs.specs.Streams.{FollowsAll, StopsWith}
use Rattle.sci_logs.specs.Told.{TakesTold, is_told_in}
use Rattle.sci_script.specs.declared.refusals.ScriptRefusal.{ScriptRefusal}
use Rattle.sci_script.specs.declared.refusals.ScriptRefusal.TheVariants.{OutOfMemory, BadCommand, BadNumber, NotDone, WriteFailed}
use Rattle.sci_port.specs.declared.watching.Passed.{Passed}
use Rattle.sci_laws.specs.ReadBack.{AreWords, IsReadAs, look_of, noted_of}

-- a refusal of a line of the script
abbrev pub IsOfLine : ScriptRefusal → Type 0
IsOfLine OutOfMemory = ⊥
IsOfLine (BadCommand n) = Unit {0}
IsOfLine (BadNumber n) = Unit {0}
IsOfLine (NotDone n) = Unit {0}
IsOfLine WriteFailed = ⊥

-- the text is a run of the table, and nothing but memory or a read keeps it from being followed
abbrev pub IsSurelyFollowed : List ℕ → Type 0
IsSurelyFollowed text = FollowsAll text × ((fault : LogFault) → StopsWith fault text → (fault ≡ LogFault.CannotRead) ⊎ (fault ≡ LogFault.OutOfMemory))

-- eight words of 64 bits
abbrev pub fit : List ℕ → Type 0
fit words = AreWords (Some words)

-- what is told of a turn of the node: its looks at the own tag, and then its exchange
abbrev pub exchange_told : ℕ → Passed → List Noted
exchange_told node passed = elim passed.step [
  | None ↦ []
  | Some step ↦ noted_of node passed step.0 step.1 ∷ []
]

abbrev pub turn_told : ℕ → Passed → List Noted
turn_told node passed = replicate passed.looks (look_of node passed.line) ++ exchange_told node passed

-- the text is a line for each
abbrev pub AreReadAs : List ℕ → List Noted → Type 0
AreReadAs text [] = text ≡ []
AreReadAs text (noted ∷ more) = (line rest : List ℕ) × (text ≡ line ++ rest) × IsReadAs noted_at line noted × AreReadAs rest more

-- each is of this node on this line, and any other node that it names is one of n
abbrev pub AreToldOf : ℕ → ℕ → ℕ → List Noted → Type 0
AreToldOf n node line [] = Unit {0}
AreToldOf n node line (noted ∷ more) = (noted.node ≡ node) × (noted.line ≡ line) × (is_told_in n noted.told ≡ true) × AreToldOf n node line more

-- from lines that stand so each is answered as it is told, one after another, and as nothing else; this line comes to t, and no other
-- is touched
abbrev pub AreFollowed : ℕ → (ℕ → State) → List Noted → ℕ → State → Type 0
AreFollowed n lines [] line t = lines line ≡ t
AreFollowed n lines (noted ∷ more) line t = ((after : ℕ → State) × TakesTold n lines noted (Ok tt) after)
    × ((why : Deviation) (after : ℕ → State) → TakesTold n lines noted (Err why) after → ⊥)
    × ((after : ℕ → State) → TakesTold n lines noted (Ok tt) after → ((other : ℕ) → other ≢ line → after other ≡ lines other) × AreFollowed n after more line t)
