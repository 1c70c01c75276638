-- How a line stands while one node works on it alone.
use Rattle.std.proofs.Common.{◌≡◌, ◌≢◌, ◌<◌, ℕ, Bool, true, false, Option, Some, None}
use Rattle.std.specs.Prelude.{cond, not, is_some}
use Rattle.sci_words.specs.declared.tags.Kind.{Kind}
use Rattle.sci_words.specs.declared.tags.Tag.{Tag}
use Rattle.sci_core.specs.declared.lines.Line.{Line}
use Rattle.sci_core.specs.declared.pending.Pending.{Pending}
use Rattle.sci_core.specs.State.{State, lent_word}
use Rattle.sci_core.specs.Found.{can_be_told}
use Rattle.sci_core.specs.Row.{home, listed, purged_word}
use Rattle.sci_ops.specs.declared.goals.Goal.{Goal}
use Rattle.sci_ops.specs.declared.answers.Turn.{Turn}
use Rattle.sci_ops.specs.Alone.{IsAtRest}
use Rattle.sci_ops.proofs.Ending.Counting.{is_listed}
use Rattle.sci_ops.proofs.Ending.Potential.{potential}

-- a settled head's tag
abbrev pub IsHead : Bool → Tag → Type 0
IsHead d t = (t.kind ≡ cond d Kind.Dirty Kind.Fresh) × (t.held ≡ false)

-- the memory word and the head that it names
abbrev pub FrontIs : State → Option ℕ → Type 0
FrontIs s None = s.memory ≡ home
FrontIs s (Some x) = (d : Bool) × (s.memory ≡ listed d x) × IsHead d (s.tags x)

-- the tags of the entry behind a node, and of the one before it
abbrev pub IsNext : ℕ → Tag → Type 0
IsNext me t = (t.kind ≡ Kind.Valid) × (t.held ≡ false) × (t.back ≡ Some me)

abbrev pub IsPrevious : ℕ → Tag → Type 0
IsPrevious me t = (can_be_told t.kind ≡ true) × (t.held ≡ false) × (t.forw ≡ Some me)

-- the entry that a newcomer found at the front, if any, and what it has of the line, fit each other
abbrev pub MayAttach : State → Option ℕ → Bool → Option Line → Type 0
MayAttach s None d copy = Unit {0}
MayAttach s (Some x) d copy = IsHead d (s.tags x) × (is_some copy ≡ not d)

-- the goals that bring a node into the list, to a write, out of its front and out of its body
abbrev pub Enters : Goal → Type 0
Enters Goal.Evict = ⊥
Enters _ = Unit {0}

abbrev pub Loads : Goal → Type 0
Loads Goal.Load = Unit {0}
Loads _ = ⊥

abbrev pub Writes : Goal → Type 0
Writes (Goal.Write write) = Unit {0}
Writes _ = ⊥

abbrev pub Evicts : Goal → Type 0
Evicts Goal.Evict = Unit {0}
Evicts _ = ⊥

abbrev pub Rolls : Goal → Type 0
Rolls Goal.Load = ⊥
Rolls _ = Unit {0}

-- what the line is where the node is in this step; in Idle, Ready, Parted and Unlinked the law says enough
abbrev pub AloneIn : ℕ → Goal → ℕ → State → Pending → Type 0
AloneIn n goal me s Pending.Idle = Unit {0}
AloneIn n goal me s (Pending.Holding w l) = Loads goal
AloneIn n goal me s (Pending.Queueing f) = Enters goal × FrontIs s f
AloneIn n goal me s (Pending.Fetching f d l) = Enters goal × (s.memory ≡ lent_word (listed d me)) × MayAttach s f d (Some l)
AloneIn n goal me s (Pending.InQueue f d c) = Enters goal × MayAttach s f d c
AloneIn n goal me s (Pending.Copying x w l) = Enters goal × (s.tags x ≡ w) × (is_listed w.kind ≡ true)
AloneIn n goal me s (Pending.Ready f d l) = Enters goal
AloneIn n goal me s (Pending.Converting f turned) = Writes goal × (turned ≡ false → s.memory ≡ listed false me)
AloneIn n goal me s (Pending.Purging l seen) = Writes goal
AloneIn n goal me s (Pending.Advancing l x w) = Writes goal × (x < n) × (s.tags x ≡ purged_word w)
AloneIn n goal me s (Pending.Clearing l x w) = Writes goal × (x < n) × (s.tags x ≡ purged_word w)
AloneIn n goal me s (Pending.Leaving d l seen) = Evicts goal × (s.memory ≡ listed d me) × ((x : ℕ) → (s.tags me).forw ≡ Some x → IsNext me (s.tags x))
AloneIn n goal me s (Pending.Promoted d l x) = Evicts goal × (s.memory ≡ listed d me)
AloneIn n goal me s (Pending.WritingBack l) = Evicts goal × (s.memory ≡ lent_word home)
AloneIn n goal me s (Pending.Parted f) = Evicts goal
-- the back link of the entry behind a node that rolls out is the node, until that entry is told
AloneIn n goal me s (Pending.Rolling told seen) = Rolls goal × (told ≡ false → (x : ℕ) → (s.tags me).forw ≡ Some x → IsNext me (s.tags x)) × ((b : ℕ) × ((s.tags me).back ≡ Some b) × IsPrevious me (s.tags b))
AloneIn n goal me s (Pending.Unlinked f b) = Rolls goal

abbrev pub OthersRest : ℕ → State → Type 0
OthersRest me s = (i : ℕ) → i ≢ me → s.steps i ≡ Pending.Idle

pub record Alone (n : ℕ) (goal : Goal) (me : ℕ) (s : State) : Type 0 where
  pub others : OthersRest me s
  pub at : AloneIn n goal me s (s.steps me)

-- a turn that is done is the last, one that moves leaves fewer, and none waits
abbrev pub Falls : ℕ → Goal → ℕ → State → Turn → State → Type 0
Falls n goal me s (Turn.Done answer) t = (0 < potential n goal me s) × IsAtRest t
Falls n goal me s Turn.Moved t = Alone n goal me t × (potential n goal me t < potential n goal me s)
Falls n goal me s Turn.Waiting t = ⊥
