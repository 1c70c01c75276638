-- A chain is fronts and then body entries. The front kinds are those without a back link. This project's profile.
use Rattle.std.specs.Prelude.{◌≡◌, ◌≢◌, ◌⊎◌, ◌↔◌, ℕ, true, Some, None, List, [], ◌++◌, All, Contains}
use Rattle.sci_words.specs.declared.tags.Kind.{Kind}
use Rattle.sci_words.specs.declared.tags.Tag.{Tag}
use Rattle.sci_core.specs.declared.pending.Pending.{Pending}
use Rattle.sci_core.specs.State.{State}
use Rattle.sci_core.specs.Shape.{Phase, phase_of}
use Rattle.sci_core.specs.Law.{is_front, is_body}

-- a front's word: Queued, Leaving, Fresh, Dirty, Convert or Purging, and no back link
abbrev pub IsFrontWord : Tag → Type 0
IsFrontWord t = (is_front t.kind ≡ true) × (t.back ≡ None)

-- a body entry's word: Valid, Roll or Purged, and a back link
abbrev pub IsBodyWord : Tag → Type 0
IsBodyWord t = (is_body t.kind ≡ true) × (t.back ≢ None)

-- an entry with a front behind it: a front before the last
abbrev pub IsWaitingFront : State → List ℕ → ℕ → Type 0
IsWaitingFront s nodes i = Contains nodes i × ((j : ℕ) × ((s.tags i).forw ≡ Some j) × IsFrontWord (s.tags j))

-- a front with no front behind it
abbrev pub IsLastFront : State → List ℕ → ℕ → Type 0
IsLastFront s nodes i = Contains nodes i × IsFrontWord (s.tags i) × ((j : ℕ) → (s.tags i).forw ≡ Some j → IsBodyWord (s.tags j))

-- what a front before the last is doing: prepending itself, or leaving
abbrev pub IsWaiting : Tag → Pending → Type 0
IsWaiting t p = ((t.kind ≡ Kind.Queued) × ((phase_of p ≡ Phase.Fetching) ⊎ (phase_of p ≡ Phase.InQueue))) ⊎ ((t.kind ≡ Kind.Leaving) × (phase_of p ≡ Phase.Promoted))

-- it purges this victim, and has yet to take its forward link
abbrev pub IsAdvancing : Pending → ℕ → Type 0
IsAdvancing (Pending.Advancing line victim word) i = victim ≡ i
IsAdvancing _ i = ⊥

-- the last front has purged the entry behind it
abbrev pub IsPurgedByFront : State → List ℕ → ℕ → Type 0
IsPurgedByFront s nodes i = (k : ℕ) × IsLastFront s nodes k × ((s.tags k).forw ≡ Some i) × IsAdvancing (s.steps k) i

pub record IsFrontsThenBody (s : State) (nodes : List ℕ) : Type 0 where
  -- a chain is fronts and then body entries, and has a front unless it is empty
  pub parts : (fronts : List ℕ) × (body : List ℕ) × (nodes ≡ fronts ++ body) × All (λ i. IsFrontWord (s.tags i)) fronts × All (λ i. IsBodyWord (s.tags i)) body × (fronts ≡ [] → nodes ≡ [])
  pub waiting : (i : ℕ) → IsWaitingFront s nodes i → IsWaiting (s.tags i) (s.steps i)
  -- a last front that is Queued has attached the entry behind it, or is alone
  pub queued : (i : ℕ) → IsLastFront s nodes i → (s.tags i).kind ≡ Kind.Queued → (phase_of (s.steps i) ≡ Phase.Copying) ⊎ (phase_of (s.steps i) ≡ Phase.Ready) ⊎ ((s.tags i).forw ≡ None)
  pub leaving : (i : ℕ) → IsLastFront s nodes i → (s.tags i).kind ≡ Kind.Leaving → phase_of (s.steps i) ≡ Phase.Leaving
  -- only the first body entry is ever Purged, by the last front
  pub purged : (i : ℕ) → Contains nodes i → ((s.tags i).kind ≡ Kind.Purged) ↔ IsPurgedByFront s nodes i
