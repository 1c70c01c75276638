-- Which nodes go on. A node moves where its next turn, if nobody comes between its look and its exchange, makes one. This project's profile.
use Rattle.std.specs.Prelude.{◌≡◌, ◌≢◌, ℕ, Bool, true, false, ◌&&◌, ◌||◌, not, Option, Some, None}
use Rattle.sci_words.specs.declared.tags.Tag.{Tag}
use Rattle.sci_words.specs.declared.memory.Mem.{Mem}
use Rattle.sci_core.specs.declared.pending.Pending.{Pending}
use Rattle.sci_core.specs.declared.stages.Stage.{Stage}
use Rattle.sci_core.specs.declared.events.Event.{Event}
use Rattle.sci_core.specs.State.{State}
use Rattle.sci_core.specs.Shape.{kept_of}
use Rattle.sci_core.specs.Found.{names, is_fresh, is_dirty, is_settled_body, is_rolling, can_be_told, is_found}
use Rattle.sci_core.specs.Stage.{stage_of}
use Rattle.sci_core.specs.Step.{Finds, look_of}
use Rattle.sci_core.specs.Table.{has_row, row_of}

-- a node gives way only where memory's word tells it to: a newcomer notes another head where memory isn't lent and names that one,
-- and a head settles again, gives up its write or queues up again where memory doesn't name it any more
abbrev pub GivesWayRightly : Mem → ℕ → Pending → Event → Type 0
GivesWayRightly m i p (Event.Requeue head) = (m.lent ≡ false) × (m.forw ≡ head) × (kept_of p ≢ head)
GivesWayRightly m i p Event.Stay = m.forw ≢ Some i
GivesWayRightly m i p Event.Unconverted = m.forw ≢ Some i
GivesWayRightly m i p Event.ReEnter = m.forw ≢ Some i
GivesWayRightly m i p _ = Unit {0}

-- in this step node i of n is allowed an exchange that finds its word as it stands, and gives way rightly
pub record MovesIn (n : ℕ) (s : State) (i : ℕ) (p : Pending) : Type 0 where
  pub event : Event
  pub allowed : has_row n i p event ≡ true
  pub finds : Finds s (row_of i p event).change
  pub gives_way : GivesWayRightly s.memory i p event

-- node i of n moves: it does so once it has looked at its own tag
abbrev pub Moves : ℕ → State → ℕ → Type 0
Moves n s i = MovesIn n s i (look_of (s.steps i) (s.tags i))

-- every step is Idle
abbrev pub IsAtRest : State → Type 0
IsAtRest s = (i : ℕ) → s.steps i ≡ Pending.Idle

-- a node of n that isn't Idle, and moves
abbrev pub IsMover : ℕ → State → ℕ → Type 0
IsMover n s i = (s.steps i ≢ Pending.Idle) × Moves n s i

-- the tag that a link names
abbrev pub tag_at : State → Option ℕ → Option Tag
tag_at s (Some x) = Some (s.tags x)
tag_at s None = None

-- a newcomer, dirty or not, with a copy or not, attaches this old head
abbrev pub attaches : Bool → Bool → Tag → Bool
attaches true copied t = not copied && is_found is_dirty t
attaches false copied t = copied && is_found is_fresh t

-- a purging head purges this entry, or adopts it
abbrev pub purges_or_adopts : ℕ → Tag → Bool
purges_or_adopts me t = is_found is_settled_body t || (is_found is_rolling t && not (names me t.back))

-- this entry is Valid, and has the node in front of it
abbrev pub is_next : ℕ → Tag → Bool
is_next me t = is_found is_settled_body t && names me t.back

-- this entry may be told, and has the node behind it
abbrev pub is_before : ℕ → Tag → Bool
is_before me t = is_found can_be_told t && names me t.forw

-- whether the node me goes on in this step, by memory's word and the tags that its own links name
abbrev pub goes_in : ℕ → Mem → Stage → Option Tag → Option Tag → Bool
goes_in me m Stage.Idle next before = false
goes_in me m (Stage.Queueing f) next before = not m.lent
goes_in me m (Stage.InQueue f d copied) (Some t) before = attaches d copied t
goes_in me m (Stage.Purging seen) (Some t) before = purges_or_adopts me t
goes_in me m (Stage.Leaving d seen) (Some t) before = not (names me m.forw) || is_next me t
goes_in me m (Stage.Rolling false seen) (Some t) before = is_next me t
goes_in me m (Stage.Rolling told seen) next (Some t) = is_before me t
goes_in me m (Stage.Rolling told seen) next None = false
goes_in me m _ next before = true

abbrev pub goes : State → ℕ → Bool
goes s i = goes_in i s.memory (stage_of (s.steps i)) (tag_at s (s.tags i).forw) (tag_at s (s.tags i).back)
