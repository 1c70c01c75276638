-- An exact sharing list: what a line is once nobody is doing anything. IEEE Std 1596-1992.
use Rattle.std.specs.Prelude.{◌≡◌, ◌≢◌, ◌⊎◌, ◌↔◌, ◌<◌, ℕ, Bool, true, false, Some, List, All, AllPairs, Contains}
use Rattle.sci_words.specs.declared.tags.Kind.{Kind}
use Rattle.sci_words.specs.declared.tags.Tag.{Tag}
use Rattle.sci_words.specs.declared.memory.Mem.{Mem}
use Rattle.sci_words.specs.declared.memory.MemState.{MemState}
use Rattle.sci_core.specs.declared.lines.Line.{Line}
use Rattle.sci_core.specs.Chain.{IsPath}

abbrev pub is_closed_kind : Kind → Bool
is_closed_kind Kind.Invalid = true
is_closed_kind Kind.Fresh = true
is_closed_kind Kind.Dirty = true
is_closed_kind Kind.Valid = true
is_closed_kind _ = false

-- memory isn't lent, no tag is held, and every kind is Invalid, Fresh, Dirty or Valid
pub record IsSettled (n : ℕ) (memory : Mem) (tags : ℕ → Tag) : Type 0 where
  pub not_lent : memory.lent ≡ false
  pub not_held : (i : ℕ) → i < n → (tags i).held ≡ false
  pub kinds : (i : ℕ) → i < n → is_closed_kind (tags i).kind ≡ true

-- the forward links from memory name distinct nodes below the number of nodes, and end
pub record IsEnding (n : ℕ) (memory : Mem) (tags : ℕ → Tag) (nodes : List ℕ) : Type 0 where
  pub path : IsPath memory.forw (λ i. (tags i).forw) nodes
  pub distinct : AllPairs (λ i j. i ≢ j) nodes
  pub below : All (λ i. i < n) nodes

-- a node is on the chain exactly if it isn't Invalid
abbrev pub ListsSharers : ℕ → (ℕ → Tag) → List ℕ → Type 0
ListsSharers n tags nodes = (i : ℕ) → i < n → ((tags i).kind ≢ Kind.Invalid) ↔ Contains nodes i

-- the first entry is Fresh or Dirty, each later one is Valid with the entry before it as back link
pub record IsLinkedBack (memory : Mem) (tags : ℕ → Tag) (nodes : List ℕ) : Type 0 where
  pub first : (h : ℕ) → memory.forw ≡ Some h → ((tags h).kind ≡ Kind.Fresh) ⊎ ((tags h).kind ≡ Kind.Dirty)
  pub later : (a b : ℕ) → Contains nodes a → (tags a).forw ≡ Some b → ((tags b).kind ≡ Kind.Valid) × ((tags b).back ≡ Some a)

-- Fresh stands under FRESH, Dirty under GONE
pub record SuitsMemory (memory : Mem) (tags : ℕ → Tag) (nodes : List ℕ) : Type 0 where
  pub fresh : (i : ℕ) → Contains nodes i → (tags i).kind ≡ Kind.Fresh → memory.state ≡ MemState.Fresh
  pub dirty : (i : ℕ) → Contains nodes i → (tags i).kind ≡ Kind.Dirty → memory.state ≡ MemState.Gone

-- all lines on the chain are equal, and equal to memory's unless GONE
pub record HasEqualLines (memory : Mem) (memory_line : Line) (lines : ℕ → Line) (nodes : List ℕ) : Type 0 where
  pub sharers : (i j : ℕ) → Contains nodes i → Contains nodes j → lines i ≡ lines j
  pub of_memory : (i : ℕ) → Contains nodes i → memory.state ≢ MemState.Gone → lines i ≡ memory_line

-- a line of n nodes, at rest: the memory word and memory's line, each node's tag word and line, and the chain
pub record IsExact (n : ℕ) (memory : Mem) (memory_line : Line) (tags : ℕ → Tag) (lines : ℕ → Line) (nodes : List ℕ) : Type 0 where
  pub settled : IsSettled n memory tags
  pub ending : IsEnding n memory tags nodes
  pub lists : ListsSharers n tags nodes
  pub linked : IsLinkedBack memory tags nodes
  pub suits : SuitsMemory memory tags nodes
  pub equal : HasEqualLines memory memory_line lines nodes
