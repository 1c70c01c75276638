-- What contracts see of a pending step on the terms of its line.
use Rattle.std.specs.Prelude.{◌≡◌, ℕ, ◌<◌, List}
use Rattle.sci_core.specs.declared.pending.Pending.{Pending}
use Rattle.sci_core.specs.State.{State}
use Rattle.sci_core.specs.Whole.{IsRuled}
use Rattle.sci_fine.specs.declared.views.Terms.{Terms}

pub record StandingOn (K : Type 0) : Type 0 where
  pub terms : Terms K
  pub node : ℕ
  pub pending : Pending

-- the node of a line of n nodes may have this step: it has it in some lawful state
pub record IsStanding (n : ℕ) (fits : List ℕ → Type 0) (me : ℕ) (p : Pending) : Type 0 where
  pub state : State
  pub ruled : IsRuled n fits state
  pub below : me < n
  pub step : state.steps me ≡ p
