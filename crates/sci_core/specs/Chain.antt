-- The sharing list of a line: the forward links from memory's word on. IEEE Std 1596-1992.
use Rattle.std.specs.Prelude.{◌≡◌, ◌≢◌, ◌⊎◌, ◌↔◌, ◌<◌, ℕ, Option, Some, None, List, [], ◌∷◌, All, AllPairs, Contains}
use Rattle.sci_words.specs.declared.memory.MemState.{MemState}
use Rattle.sci_core.specs.State.{State}

-- the nodes that start at a link and go on along forward links until one has none
abbrev pub IsPath : Option ℕ → (ℕ → Option ℕ) → List ℕ → Type 0
IsPath from forw [] = from ≡ None
IsPath from forw (x ∷ xs) = (from ≡ Some x) × IsPath (forw x) forw xs

abbrev pub forward : State → ℕ → Option ℕ
forward s i = (s.tags i).forw

-- the chain of a line of n nodes: from memory's forward link on, each node once, and none exactly under HOME
pub record IsChain (n : ℕ) (s : State) (nodes : List ℕ) : Type 0 where
  pub path : IsPath s.memory.forw (forward s) nodes
  pub distinct : AllPairs (λ i j. i ≢ j) nodes
  pub below : All (λ i. i < n) nodes
  pub empty : (s.memory.state ≡ MemState.Home) ↔ (nodes ≡ [])

-- in this list b stands behind a
abbrev pub IsBehind : List ℕ → ℕ → ℕ → Type 0
IsBehind [] a b = ⊥
IsBehind (x ∷ xs) a b = ((x ≡ a) × Contains xs b) ⊎ IsBehind xs a b
