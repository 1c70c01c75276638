-- What a node has seen, told or kept still fits the words. This project's profile.
use Rattle.std.specs.Prelude.{◌≡◌, ◌≢◌, ◌⊎◌, ℕ, true, false, Option, Some, None, List}
use Rattle.sci_words.specs.declared.tags.Kind.{Kind}
use Rattle.sci_words.specs.declared.tags.Tag.{Tag}
use Rattle.sci_words.specs.declared.memory.Mem.{Mem}
use Rattle.sci_core.specs.declared.pending.Pending.{Pending}
use Rattle.sci_core.specs.State.{State, lent_word}
use Rattle.sci_core.specs.Shape.{Phase, phase_of}
use Rattle.sci_core.specs.Law.{is_parting}
use Rattle.sci_core.specs.Chain.{IsBehind}
use Rattle.sci_core.specs.Fronts.{IsLastFront}
use Rattle.sci_core.specs.Row.{listed, home}

-- the forward link that the node has seen in its own word, if it has looked
abbrev pub seen_forward : Pending → Option (Option ℕ)
seen_forward (Pending.Purging line seen) = seen
seen_forward (Pending.Leaving dirty line seen) = seen
seen_forward (Pending.Rolling told (Some links)) = Some links.0
seen_forward _ = None

-- the back link that it has seen there
abbrev pub seen_back : Pending → Option ℕ
seen_back (Pending.Rolling told (Some links)) = Some links.1
seen_back _ = None

-- it has told its successor
abbrev pub HasTold : Pending → Type 0
HasTold (Pending.Rolling told seen) = told ≡ true
HasTold _ = ⊥

-- it is to tell its successor
abbrev pub IsUntold : Pending → Type 0
IsUntold (Pending.Rolling told seen) = told ≡ false
IsUntold _ = ⊥

-- node i was the first behind the purging last front k, whose link it now has, and b is a back link that may be told
abbrev pub IsStaleBack : State → List ℕ → ℕ → ℕ → ℕ → Type 0
IsStaleBack s nodes i b k = IsLastFront s nodes k × ((s.tags k).kind ≡ Kind.Purging) × ((s.tags k).forw ≡ Some i) × ((s.tags i).back ≡ Some k) × (b ≢ i) × (IsBehind nodes i b → ⊥) × (is_parting (phase_of (s.steps b)) ≡ false)

-- the word that node i keeps in this step stands
abbrev pub KeptWordStands : (ℕ → Tag) → ℕ → Pending → Type 0
KeptWordStands tags i (Pending.Advancing line victim w) = (tags victim ≡ w) × (w.kind ≡ Kind.Purged)
KeptWordStands tags i (Pending.Clearing line victim w) = (tags victim ≡ w) × (w.kind ≡ Kind.Purged)
KeptWordStands tags i (Pending.Copying forw w line) = (tags forw ≡ w) × (w.kind ≡ Kind.Valid) × (w.held ≡ true) × (w.back ≡ Some i)
KeptWordStands tags i _ = Unit {0}

-- memory's word, while node i has its slot in this step, is the one that the node finds when it gives the slot back
abbrev pub LentWordStands : Mem → ℕ → Pending → Type 0
LentWordStands m i (Pending.Fetching forw dirty line) = m ≡ lent_word (listed dirty i)
LentWordStands m i (Pending.WritingBack line) = m ≡ lent_word home
LentWordStands m i _ = Unit {0}

pub record RemembersTruly (s : State) (nodes : List ℕ) : Type 0 where
  -- a seen forward link is the own word's, or names no entry behind the node; a seen none is the own word's
  pub seen_none : (i : ℕ) → seen_forward (s.steps i) ≡ Some None → (s.tags i).forw ≡ None
  pub seen_some : (i x : ℕ) → seen_forward (s.steps i) ≡ Some (Some x) → ((s.tags i).forw ≡ Some x) ⊎ (IsBehind nodes i x → ⊥)
  -- a seen back link is the own word's, unless a purger has come since
  pub seen_back_link : (i b : ℕ) → seen_back (s.steps i) ≡ Some b → ((s.tags i).back ≡ Some b) ⊎ ((k : ℕ) × IsStaleBack s nodes i b k)
  -- who has told its successor saw it, has it still, and is no longer its back link
  pub told_successor : (i : ℕ) → HasTold (s.steps i) → (x : ℕ) × (seen_forward (s.steps i) ≡ Some (Some x)) × ((s.tags i).forw ≡ Some x) × ((s.tags x).back ≢ Some i)
  -- who hasn't told its successor is that one's back link
  pub untold_successor : (i x : ℕ) → IsUntold (s.steps i) → (s.tags i).forw ≡ Some x → (s.tags x).back ≡ Some i
  -- an unlinked node that a purging node has seen has that node as back link
  pub seen_unlinked : (i x : ℕ) → phase_of (s.steps i) ≡ Phase.Purging → seen_forward (s.steps i) ≡ Some (Some x) → phase_of (s.steps x) ≡ Phase.Unlinked → (s.tags x).back ≡ Some i
  pub kept_word : (i : ℕ) → KeptWordStands s.tags i (s.steps i)
  pub lent : (i : ℕ) → LentWordStands s.memory i (s.steps i)
