-- Whom a node waits for. This project's profile.
use Rattle.std.specs.Prelude.{◌≡◌, ◌≢◌, ◌⊎◌, ℕ, Bool, true, false, ◌&&◌, ◌||◌, ◌==◌, cond, Option, Some, None}
use Rattle.std.specs.Option.{option_or}
use Rattle.std.proofs.Common.{zero, suc}
use Rattle.sci_words.specs.declared.tags.Kind.{Kind}
use Rattle.sci_words.specs.declared.tags.Tag.{Tag}
use Rattle.sci_core.specs.declared.pending.Pending.{Pending}
use Rattle.sci_core.specs.declared.stages.Stage.{Stage}
use Rattle.sci_core.specs.declared.waiting.Obstacle.{Obstacle}
use Rattle.sci_core.specs.State.{State}
use Rattle.sci_core.specs.Found.{names}
use Rattle.sci_core.specs.Stage.{stage_of}
use Rattle.sci_core.specs.Progress.{Moves}

abbrev pub is_purged : Kind → Bool
is_purged Kind.Purged = true
is_purged _ = false

abbrev pub is_purging : Kind → Bool
is_purging Kind.Purging = true
is_purging _ = false

abbrev pub is_rolling_out : Stage → Bool
is_rolling_out (Stage.Rolling told seen) = true
is_rolling_out _ = false

-- it has memory's slot in hand
abbrev pub borrows : Stage → Bool
borrows (Stage.Fetching f d) = true
borrows Stage.WritingBack = true
borrows _ = false

-- somebody has this tag to himself: it is held, or Purged
abbrev pub is_taken : Tag → Bool
is_taken t = t.held || is_purged t.kind

-- node y, in this stage, has the tag of entry x to itself: it reads there, copies from there, or purges that entry
abbrev pub works_on : ℕ → ℕ → Stage → Bool
works_on x y (Stage.Holding w) = y == x
works_on x y (Stage.Copying f w) = f == x
works_on x y (Stage.Advancing v w) = v == x
works_on x y (Stage.Clearing v w) = v == x
works_on x y _ = false

-- an entry with this tag, in this stage, has node i behind it, and is on its way to write or to go
abbrev pub is_in_front : ℕ → Tag → Stage → Bool
is_in_front i t p = names i t.forw && (is_purging t.kind || is_rolling_out p)

-- node y, with this tag and in this stage, is what is in the way
abbrev pub is_due : Obstacle → ℕ → Tag → Stage → Bool
is_due Obstacle.Memory y t p = borrows p
is_due (Obstacle.Taken x) y t p = works_on x y p
is_due (Obstacle.Front i) y t p = is_in_front i t p

abbrev pub IsDue : State → Obstacle → ℕ → Type 0
IsDue s o y = is_due o y (s.tags y) (stage_of (s.steps y)) ≡ true

-- y is due at entry x: it has that tag to itself, where somebody has; or else it is x
abbrev pub IsDueAt : State → ℕ → ℕ → Type 0
IsDueAt s x y = ((is_taken (s.tags x) ≡ true) × IsDue s (Obstacle.Taken x) y) ⊎ ((is_taken (s.tags x) ≡ false) × (y ≡ x))

-- y is due in front of node i: on its way to write or to go, where such an entry is there; or else at i's back link
abbrev pub IsDueInFront : State → ℕ → Option ℕ → ℕ → Type 0
IsDueInFront s i (Some b) y = IsDue s (Obstacle.Front i) y ⊎ (((z : ℕ) → IsDue s (Obstacle.Front i) z → ⊥) × IsDueAt s b y)
IsDueInFront s i None y = IsDue s (Obstacle.Front i) y

-- the node i, in this stage and with these links, waits for node y: before the list for who has memory's slot; where it has told
-- the entry behind it, or has none, for who is due in front; or else for who is due at the entry behind it
abbrev pub WaitsIn : State → ℕ → Stage → Option ℕ → Option ℕ → ℕ → Type 0
WaitsIn s i Stage.Idle forw back y = ⊥
WaitsIn s i (Stage.Queueing f) forw back y = IsDue s Obstacle.Memory y
WaitsIn s i (Stage.Rolling false seen) (Some x) back y = IsDueAt s x y
WaitsIn s i (Stage.Rolling told seen) forw back y = IsDueInFront s i back y
WaitsIn s i p (Some x) back y = IsDueAt s x y
WaitsIn s i p None back y = ⊥

-- node i of n isn't Idle and doesn't move, and waits for node y
pub record Waits (n : ℕ) (s : State) (i y : ℕ) : Type 0 where
  pub busy : s.steps i ≢ Pending.Idle
  pub stuck : Moves n s i → ⊥
  pub whom : WaitsIn s i (stage_of (s.steps i)) (s.tags i).forw (s.tags i).back y

-- the lowest number below n of which this is true
abbrev pub first : ℕ → (ℕ → Bool) → Option ℕ
first zero f = None
first (suc n) f = option_or (first n f) (cond (f n) (Some n) None)

abbrev pub first_due : State → ℕ → Obstacle → Option ℕ
first_due s n o = first n (λ y. is_due o y (s.tags y) (stage_of (s.steps y)))

abbrev pub due_at : State → ℕ → ℕ → Option ℕ
due_at s n x = cond (is_taken (s.tags x)) (first_due s n (Obstacle.Taken x)) (Some x)

abbrev pub due_at_link : State → ℕ → Option ℕ → Option ℕ
due_at_link s n (Some x) = due_at s n x
due_at_link s n None = None

-- whom node i, in this stage and with these links, would wait for
abbrev pub sought : State → ℕ → ℕ → Stage → Option ℕ → Option ℕ → Option ℕ
sought s n i Stage.Idle forw back = None
sought s n i (Stage.Queueing f) forw back = first_due s n Obstacle.Memory
sought s n i (Stage.Rolling false seen) (Some x) back = due_at s n x
sought s n i (Stage.Rolling told seen) forw back = option_or (first_due s n (Obstacle.Front i)) (due_at_link s n back)
sought s n i p forw back = due_at_link s n forw
