-- A lawful line: what holds of its words, slots and pending steps between any two steps.
use Rattle.std.specs.Prelude.{ℕ, List}
use Rattle.sci_core.specs.declared.lines.Line.{Line}
use Rattle.sci_core.specs.State.{State}
use Rattle.sci_core.specs.Chain.{IsChain}
use Rattle.sci_core.specs.Fronts.{IsFrontsThenBody}
use Rattle.sci_core.specs.PendingStep.{IsInStep}
use Rattle.sci_core.specs.Value.{HasOneValue}
use Rattle.sci_core.specs.BackLinks.{HasBackLinks}
use Rattle.sci_core.specs.Outside.{HasOnlyOutsidersOutside}
use Rattle.sci_core.specs.Mode.{FitsMemoryWord}
use Rattle.sci_core.specs.Slots.{HasSlotsInHands}

-- lawful with this chain and this value, over n nodes, where `fits` is what is known of the line's words
pub record Lawful (n : ℕ) (fits : List ℕ → Type 0) (s : State) (nodes : List ℕ) (v : Line) : Type 0 where
  pub chain : IsChain n s nodes
  pub fronts : IsFrontsThenBody s nodes
  pub steps : IsInStep s nodes
  pub copies : HasOneValue fits s nodes v
  pub back_links : HasBackLinks s nodes
  pub outside : HasOnlyOutsidersOutside s nodes
  pub mode : FitsMemoryWord s nodes v
  pub slots : HasSlotsInHands s

-- lawful with some chain and some value
abbrev pub IsLawful : ℕ → (List ℕ → Type 0) → State → Type 0
IsLawful n fits s = (nodes : List ℕ) × (v : Line) × Lawful n fits s nodes v
