-- What the memory word says of the sharing list. FRESH: memory's bytes are valid. GONE: only the list's are. IEEE Std 1596-1992;
-- what pending steps keep under each: this project's profile.
use Rattle.std.specs.Prelude.{◌≡◌, ◌≢◌, ◌⊎◌, ℕ, Bool, true, false, Some, None, List, Contains}
use Rattle.sci_words.specs.declared.tags.Kind.{Kind}
use Rattle.sci_words.specs.declared.tags.Tag.{Tag}
use Rattle.sci_words.specs.declared.memory.MemState.{MemState}
use Rattle.sci_core.specs.declared.lines.Line.{Line}
use Rattle.sci_core.specs.declared.pending.Pending.{Pending}
use Rattle.sci_core.specs.State.{State}
use Rattle.sci_core.specs.Shape.{Phase, phase_of, kept_line}
use Rattle.sci_core.specs.Fronts.{IsLastFront, IsWaitingFront}

-- the step says that its bytes are dirty
abbrev pub is_dirty_step : Pending → Bool
is_dirty_step (Pending.Fetching forw dirty line) = dirty
is_dirty_step (Pending.InQueue forw dirty copy) = dirty
is_dirty_step (Pending.Ready forw dirty line) = dirty
is_dirty_step (Pending.Leaving dirty line seen) = dirty
is_dirty_step (Pending.Promoted dirty line succ) = dirty
is_dirty_step _ = false

-- the step has turned the memory word to GONE
abbrev pub is_turned : Pending → Bool
is_turned (Pending.Converting forw turned) = turned
is_turned _ = false

-- nothing in the list differs from memory's bytes
pub record IsFreshList (s : State) (nodes : List ℕ) (v : Line) : Type 0 where
  pub not_dirty : (i : ℕ) → Contains nodes i → (s.tags i).kind ≢ Kind.Dirty
  pub not_purging : (i : ℕ) → Contains nodes i → (s.tags i).kind ≢ Kind.Purging
  pub not_copying : (i : ℕ) → Contains nodes i → phase_of (s.steps i) ≢ Phase.Copying
  pub clean_steps : (i : ℕ) → Contains nodes i → is_dirty_step (s.steps i) ≡ false
  pub not_turned : (i : ℕ) → Contains nodes i → is_turned (s.steps i) ≡ false
  -- each entry that is Queued or Promoted keeps the value
  pub queued : (i : ℕ) → Contains nodes i → (s.tags i).kind ≡ Kind.Queued → kept_line (s.steps i) ≡ Some v
  pub promoted : (i : ℕ) → Contains nodes i → phase_of (s.steps i) ≡ Phase.Promoted → kept_line (s.steps i) ≡ Some v

-- on its way to write, with nobody behind it: it has memory's bytes, which are the value, and is dirty. Others may be in front of it
abbrev pub IsHomeWriter : Tag → Pending → Line → Type 0
IsHomeWriter t p v = (t.kind ≡ Kind.Queued) × (is_dirty_step p ≡ true) × (t.forw ≡ None) × (kept_line p ≡ Some v)

-- the last front under GONE has the bytes
abbrev pub IsDirtyFront : Tag → Pending → Line → Type 0
IsDirtyFront t p v = (t.kind ≡ Kind.Dirty) ⊎ (t.kind ≡ Kind.Purging) ⊎ ((t.kind ≡ Kind.Convert) × (is_turned p ≡ true)) ⊎ ((t.kind ≡ Kind.Leaving) × (is_dirty_step p ≡ true)) ⊎ (phase_of p ≡ Phase.Copying) ⊎ ((phase_of p ≡ Phase.Ready) × (is_dirty_step p ≡ true)) ⊎ IsHomeWriter t p v

-- a front before it under GONE: in the queue without a copy, or promoted; and dirty
abbrev pub IsDirtyWaiting : Pending → Type 0
IsDirtyWaiting (Pending.InQueue forw dirty copy) = (dirty ≡ true) × (copy ≡ None)
IsDirtyWaiting (Pending.Promoted dirty line succ) = dirty ≡ true
IsDirtyWaiting _ = ⊥

-- the list has the bytes
pub record IsGoneList (s : State) (nodes : List ℕ) (v : Line) : Type 0 where
  pub last : (i : ℕ) → IsLastFront s nodes i → IsDirtyFront (s.tags i) (s.steps i) v
  pub waiting : (i : ℕ) → IsWaitingFront s nodes i → IsDirtyWaiting (s.steps i)

pub record FitsMemoryWord (s : State) (nodes : List ℕ) (v : Line) : Type 0 where
  pub fresh : s.memory.state ≡ MemState.Fresh → IsFreshList s nodes v
  pub gone : s.memory.state ≡ MemState.Gone → IsGoneList s nodes v
