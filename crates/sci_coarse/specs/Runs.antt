-- Runs of a line under a lock word: who takes the word, finds it taken, or gives it back after which call. This project's profile.
use Rattle.std.specs.Prelude.{◌≡◌, ◌≢◌, ℕ, Option, Some, None, List, [], ◌∷◌}
use Rattle.sci_core.specs.Whole.{WholeLine, IsSameLine, nodes_of, state_of}
use Rattle.sci_port.specs.declared.calls.Call.{Call}
use Rattle.sci_port.specs.Owes.{Owes}
use Rattle.sci_port.specs.Solo.{Gives}
use Rattle.sci_coarse.specs.declared.views.Entry.{Entry}
use Rattle.sci_coarse.specs.declared.views.Entry.TheVariants.{Took, Missed, Gave}

-- the node's call on a whole line that is its alone gives this answer, and leaves that line
pub record Calls {K : Type 0} (fits : K → ℕ → List ℕ → Type 0) (node : ℕ) (call : Call) (w x : WholeLine K) : Type 0 where
  pub same : IsSameLine w x
  pub gives : Gives (nodes_of w) (fits w.keep w.number) (state_of w) node call (state_of x)
  pub owes : Owes (nodes_of w) (fits w.keep w.number) node ((state_of w).steps node) call ((state_of x).steps node)

-- the node that has the lock word, if one has, and the whole line
abbrev pub Point : Type 0 → Type 0
Point K = Option ℕ × WholeLine K

-- one step of the lock word by this node: it is taken where no node has it, found taken where another node has it, and given
-- back by the node that has it, after one call on the line
abbrev pub Moves : {K : Type 0} → (K → ℕ → List ℕ → Type 0) → Point K → ℕ → Entry → Point K → Type 0
Moves fits p node Took q = (p.0 ≡ None) × (q ≡ (Some node, p.1))
Moves fits p node Missed q = (other : ℕ) × (p.0 ≡ Some other) × (other ≢ node) × (q ≡ p)
Moves fits p node (Gave call) q = (p.0 ≡ Some node) × (q.0 ≡ None) × Calls fits node call p.1 q.1

-- the calls of a run, each with its node
abbrev pub calls_in : List (ℕ × Entry) → List (ℕ × Call)
calls_in [] = []
calls_in ((node, Gave call) ∷ es) = (node, call) ∷ calls_in es
calls_in (e ∷ es) = calls_in es
