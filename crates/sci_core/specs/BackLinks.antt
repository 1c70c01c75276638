-- The back links of the sharing list. IEEE Std 1596-1992, but for what stands behind a pending step: this project's profile.
use Rattle.std.specs.Prelude.{◌≡◌, ◌≢◌, ◌⊎◌, ℕ, true, false, Some, List, Contains}
use Rattle.sci_words.specs.declared.tags.Kind.{Kind}
use Rattle.sci_core.specs.State.{State}
use Rattle.sci_core.specs.Shape.{phase_of}
use Rattle.sci_core.specs.Law.{is_body, is_parting}
use Rattle.sci_core.specs.Chain.{IsBehind}
use Rattle.sci_core.specs.Fronts.{IsLastFront}

-- b is the entry behind a
abbrev pub AreNeighbours : State → List ℕ → ℕ → ℕ → Type 0
AreNeighbours s nodes a b = Contains nodes a × ((s.tags a).forw ≡ Some b)

-- a is the first entry behind a last front that is Purging
abbrev pub IsBehindPurger : State → List ℕ → ℕ → Type 0
IsBehindPurger s nodes a = (k : ℕ) × IsLastFront s nodes k × ((s.tags k).forw ≡ Some a) × ((s.tags k).kind ≡ Kind.Purging)

pub record HasBackLinks (s : State) (nodes : List ℕ) : Type 0 where
  -- a body entry's back link is the entry before it, unless that is in Roll or Purging
  pub neighbour : (a b : ℕ) → AreNeighbours s nodes a b → is_body (s.tags b).kind ≡ true → (s.tags a).kind ≢ Kind.Roll → (s.tags a).kind ≢ Kind.Purging → (s.tags b).back ≡ Some a
  -- behind an entry in Roll it is that entry or its back link, unless a purger stands right before that entry
  pub behind_roll : (a b : ℕ) → AreNeighbours s nodes a b → (s.tags a).kind ≡ Kind.Roll → (IsBehindPurger s nodes a → ⊥) → ((s.tags b).back ≡ Some a) ⊎ ((s.tags b).back ≡ (s.tags a).back)
  -- no back link names the entry itself, nor one behind it
  pub itself : (a : ℕ) → Contains nodes a → (s.tags a).back ≢ Some a
  pub behind : (a b : ℕ) → IsBehind nodes a b → (s.tags a).back ≢ Some b
  -- none names a node that is Promoted, WritingBack, Parted or Unlinked
  pub parting : (a b : ℕ) → Contains nodes a → (s.tags a).back ≡ Some b → is_parting (phase_of (s.steps b)) ≡ false
