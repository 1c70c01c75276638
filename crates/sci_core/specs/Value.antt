-- The value of a line, and that all copies that count are that value. This project's profile.
use Rattle.std.specs.Prelude.{◌≡◌, ◌≢◌, ℕ, Some, List}
use Rattle.sci_words.specs.declared.tags.Kind.{Kind}
use Rattle.sci_words.specs.declared.memory.MemState.{MemState}
use Rattle.sci_core.specs.declared.lines.Line.{Line}
use Rattle.sci_core.specs.State.{State}
use Rattle.sci_core.specs.Fronts.{IsLastFront}
use Rattle.sci_core.specs.Sharers.{IsValidSharer}
use Rattle.sci_core.specs.Copies.{IsCopy, IsMemoryCopy}
use Rattle.sci_core.specs.Shape.{kept_line}

-- the value is the keeper's copy: memory's under HOME and FRESH, the last front's under GONE
pub record IsValue (s : State) (nodes : List ℕ) (v : Line) : Type 0 where
  pub memory : s.memory.state ≢ MemState.Gone → IsMemoryCopy s v
  pub keeper : s.memory.state ≡ MemState.Gone → (i : ℕ) → IsLastFront s nodes i → IsCopy s i v

-- all copies that count are the value
pub record HasOneValue (fits : List ℕ → Type 0) (s : State) (nodes : List ℕ) (v : Line) : Type 0 where
  pub value : IsValue s nodes v
  pub sharer : (i : ℕ) → IsValidSharer s i → IsCopy s i v
  pub leaving : (i : ℕ) → IsLastFront s nodes i → (s.tags i).kind ≡ Kind.Leaving → kept_line (s.steps i) ≡ Some v
  -- and its words fit what is known of the line
  pub fit : fits v.words
