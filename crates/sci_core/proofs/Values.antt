-- The bytes of a line that nobody uses any more.
use Rattle.std.proofs.Common.{◌≡◌, ◌≢◌, ℕ, ◌<◌, Option, Some, None, List, [], ◌∷◌, slice_index_or, Contains, refl, sym, subst, arith}
use Rattle.sci_words.specs.declared.memory.MemState.{MemState}
use Rattle.sci_core.specs.declared.lines.Line.{Line}
use Rattle.sci_core.specs.Chain.{IsPath}
use Rattle.sci_core.specs.Closed.{ClosedLine, IsExactBy, value_by}
use Rattle.sci_core.specs.State.{blank, invalid}

same_some : (x y : ℕ) → Some x ≡ Some y → x ≡ y
same_some x y e = grind (arith, e)

none_first : {X : Type 0} (x : ℕ) → ◌≡◌ {A = Option ℕ} None (Some x) → X
none_first x e = absurd (cc)

-- an entry of a path from None, and the first entry of a path from a node
no_entry : {X : Type 0} (forw : ℕ → Option ℕ) (nodes : List ℕ) (i : ℕ) → IsPath None forw nodes → Contains nodes i → X
no_entry forw [] i path on = absurd (omega (arith, on.1))
no_entry forw (x ∷ xs) i path on = none_first x path.0

first_entry : (forw : ℕ → Option ℕ) (nodes : List ℕ) (h : ℕ) → IsPath (Some h) forw nodes → Contains nodes h
first_entry forw [] h path = absurd (let e = path in cc)
first_entry forw (x ∷ xs) h path = (0, omega arith, same_some x h (sym path.0))

-- of an exact list, by memory's forward link: each node has the value
pub shared : (c : ClosedLine) (nodes : List ℕ) → IsExactBy c nodes → (o : Option ℕ) → c.mem.forw ≡ o → (i : ℕ) → Contains nodes i → slice_index_or c.lines i blank ≡ value_by o c.memory c.lines
shared c nodes is None e i on = no_entry _ nodes i (subst (λ (o : Option ℕ). IsPath o (λ i. (slice_index_or c.tags i invalid).forw) nodes) e is.ending.path) on
shared c nodes is (Some h) e i on = is.equal.sharers i h on (first_entry _ nodes h (subst (λ (o : Option ℕ). IsPath o (λ i. (slice_index_or c.tags i invalid).forw) nodes) e is.ending.path))

-- and memory, but under GONE
pub kept : (c : ClosedLine) (nodes : List ℕ) → IsExactBy c nodes → (o : Option ℕ) → c.mem.forw ≡ o → c.mem.state ≢ MemState.Gone → c.memory ≡ value_by o c.memory c.lines
kept c nodes is None e not_gone = refl
kept c nodes is (Some h) e not_gone = sym (is.equal.of_memory h (first_entry _ nodes h (subst (λ (o : Option ℕ). IsPath o (λ i. (slice_index_or c.tags i invalid).forw) nodes) e is.ending.path)) not_gone)
