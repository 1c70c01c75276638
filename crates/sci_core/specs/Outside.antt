-- What a node outside the sharing list is: no sharer, but on its way in or out, purged, or Invalid. This project's profile.
use Rattle.std.specs.Prelude.{◌≡◌, ◌⊎◌, ℕ, List, Contains}
use Rattle.sci_words.specs.declared.tags.Kind.{Kind}
use Rattle.sci_words.specs.declared.tags.Tag.{Tag}
use Rattle.sci_core.specs.declared.pending.Pending.{Pending}
use Rattle.sci_core.specs.State.{State}
use Rattle.sci_core.specs.Shape.{Phase, phase_of}

-- a node with this word in this step is on its way in or out
abbrev pub IsPassing : Tag → Pending → Type 0
IsPassing t p = ((t.kind ≡ Kind.Queued) × (phase_of p ≡ Phase.Queueing)) ⊎ ((t.kind ≡ Kind.Leaving) × ((phase_of p ≡ Phase.WritingBack) ⊎ (phase_of p ≡ Phase.Parted))) ⊎ ((t.kind ≡ Kind.Roll) × (phase_of p ≡ Phase.Unlinked))

-- it is to clear this victim
abbrev pub IsClearing : Pending → ℕ → Type 0
IsClearing (Pending.Clearing line victim word) i = victim ≡ i
IsClearing _ i = ⊥

-- a node outside is Invalid, passing, or the purged victim that another node is to clear
abbrev pub IsOutsider : State → ℕ → Type 0
IsOutsider s i = (((s.tags i).kind ≡ Kind.Invalid) × (phase_of (s.steps i) ≡ Phase.Idle)) ⊎ IsPassing (s.tags i) (s.steps i) ⊎ (((s.tags i).kind ≡ Kind.Purged) × ((j : ℕ) × IsClearing (s.steps j) i))

abbrev pub HasOnlyOutsidersOutside : State → List ℕ → Type 0
HasOnlyOutsidersOutside s nodes = (i : ℕ) → (Contains nodes i → ⊥) → IsOutsider s i
