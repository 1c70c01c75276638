-- A line has one chain and one value.
use Rattle.std.proofs.Common.{◌≡◌, ◌≢◌, ◌⊎◌, ℕ, Option, Some, None, List, [], ◌∷◌, ◌++◌, All, Contains, refl, sym, subst, inl, inr, ⊎_elim, ◌∙◌, arith}
use Rattle.std.proofs.lemmas.List.Elements.{All-contains, Contains-append_left}
use Rattle.sci_words.specs.declared.tags.Tag.{Tag}
use Rattle.sci_words.specs.declared.memory.MemState.{MemState}
use Rattle.sci_core.specs.declared.lines.Line.{Line}
use Rattle.sci_core.specs.State.{State}
use Rattle.sci_core.specs.Chain.{IsPath, forward}
use Rattle.sci_core.specs.Fronts.{IsFrontWord, IsBodyWord, IsLastFront}
use Rattle.sci_core.specs.Copies.{IsCopy, IsMemoryCopy}
use Rattle.sci_core.specs.Shape.{kept_line}
use Rattle.sci_core.specs.Slots.{HasSlotsInHands}
use Rattle.sci_core.specs.Lawful.{Lawful}
use Rattle.sci_core.proofs.ReadBack.Chain.{path_unique}
use Rattle.sci_core.proofs.ReadBack.Elements.{contains_head, contains_tail}

same_kept : (s : State) (j k : ℕ) (v w : Line) → j ≡ k → kept_line (s.steps j) ≡ Some v → kept_line (s.steps k) ≡ Some w → v ≡ w
same_kept s j k v w e a b = let c : kept_line (s.steps k) ≡ Some v = subst (λ (i : ℕ). kept_line (s.steps i) ≡ Some v) e a in let d = sym c ∙ b in grind (arith, d)

same_slot : (f : Option Line) (v w : Line) → f ≡ Some v → f ≡ Some w → v ≡ w
same_slot f v w a b = let d = sym a ∙ b in grind (arith, d)

not_out : (f : Option Line) (v : Line) → f ≡ Some v → f ≡ None → ⊥
not_out f v a b = grind (arith, a, b)

copy_unique : (s : State) → HasSlotsInHands s → (i : ℕ) (v w : Line) → IsCopy s i v → IsCopy s i w → v ≡ w
copy_unique s h i v w a b =
    ⊎_elim
    (λ x. ⊎_elim (λ y. same_slot (s.slots i) v w x y) (λ y. absurd (not_out (s.slots i) v x y.0)) b)
    (λ x. ⊎_elim (λ y. absurd (not_out (s.slots i) w y x.0)) (λ y. same_kept s x.1.0 y.1.0 v w (h.in_one i x.1.0 y.1.0 x.1.1 y.1.1) x.1.2 y.1.2) b)
    a

memory_copy_unique : (s : State) → HasSlotsInHands s → (v w : Line) → IsMemoryCopy s v → IsMemoryCopy s w → v ≡ w
memory_copy_unique s h v w a b =
    ⊎_elim
    (λ x. ⊎_elim (λ y. same_slot s.memory_slot v w x y) (λ y. absurd (not_out s.memory_slot v x y.0)) b)
    (λ x. ⊎_elim (λ y. absurd (not_out s.memory_slot w y x.0)) (λ y. same_kept s x.1.0 y.1.0 v w (h.memory_in_one x.1.0 y.1.0 x.1.1 y.1.1) x.1.2 y.1.2) b)
    a

-- the last of some fronts, before body entries, has none or a body entry behind it
last_of : (tags : ℕ → Tag) (x : ℕ) (rest body : List ℕ) (f : Option ℕ) → All (λ i. IsBodyWord (tags i)) body → IsPath f (λ i. (tags i).forw) ((x ∷ rest) ++ body) → (k : ℕ) × Contains (x ∷ rest) k × ((j : ℕ) → (tags k).forw ≡ Some j → IsBodyWord (tags j))
last_of tags x [] [] f a p = (x, contains_head x [], λ j e. absurd (let q = p.1 in grind (arith, q, e)))
last_of tags x [] (b ∷ body) f a p = (x, contains_head x [], λ j e. let q = p.1.0 in let h : j ≡ b = grind (arith, q, e) in rw h (All-contains (λ i. IsBodyWord (tags i)) (b ∷ body) b a (contains_head b body)))
last_of tags x (y ∷ rest) body f a p = let r = last_of tags y rest body (tags x).forw a p.1 in (r.0, contains_tail x (y ∷ rest) r.0 r.1, r.2)

module _ (n : ℕ) (fits : List ℕ → Type 0) (s : State) (nodes : List ℕ) (v : Line) (o : Lawful n fits s nodes v) where
  last_front_of : (fronts body : List ℕ) → nodes ≡ fronts ++ body → All (λ i. IsFrontWord (s.tags i)) fronts → All (λ i. IsBodyWord (s.tags i)) body → (fronts ≡ [] → nodes ≡ []) → nodes ≢ [] → (k : ℕ) × IsLastFront s nodes k
  last_front_of [] body e a b h m = absurd (m (h refl))
  last_front_of (x ∷ rest) body e a b h m =
      let r = last_of s.tags x rest body s.memory.forw b (subst (IsPath s.memory.forw (forward s)) e o.chain.path) in
      (r.0, (subst (λ (xs : List ℕ). Contains xs r.0) (sym e) (Contains-append_left (x ∷ rest) body r.0 r.1), All-contains (λ i. IsFrontWord (s.tags i)) (x ∷ rest) r.0 a r.1, r.2))

  -- a chain that isn't empty has a last front
  pub last_front : nodes ≢ [] → (k : ℕ) × IsLastFront s nodes k
  last_front = let p = o.fronts.parts in last_front_of p.0 p.1 p.2 p.3 p.4 p.5

gone_not_home : (m : MemState) → m ≡ MemState.Gone → m ≢ MemState.Home
gone_not_home m e h = grind (arith, e, h)

gone_or_not : (m : MemState) → (m ≡ MemState.Gone) ⊎ (m ≢ MemState.Gone)
gone_or_not MemState.Gone = inl refl
gone_or_not _ = inr (λ e. grind (arith, e))

pub chain_unique : (n : ℕ) (fits : List ℕ → Type 0) (s : State) (xs ys : List ℕ) (v w : Line) → Lawful n fits s xs v → Lawful n fits s ys w → xs ≡ ys
chain_unique n fits s xs ys v w a b = path_unique (forward s) xs ys s.memory.forw a.chain.path b.chain.path

same_chain_value : (n : ℕ) (fits : List ℕ → Type 0) (s : State) (nodes : List ℕ) (v w : Line) → Lawful n fits s nodes v → Lawful n fits s nodes w → v ≡ w
same_chain_value n fits s nodes v w a b =
    ⊎_elim
    (λ e. let k = last_front n fits s nodes v a (λ h. gone_not_home s.memory.state e (a.chain.empty.1 h)) in copy_unique s a.slots k.0 v w (a.copies.value.keeper e k.0 k.1) (b.copies.value.keeper e k.0 k.1))
    (λ m. memory_copy_unique s a.slots v w (a.copies.value.memory m) (b.copies.value.memory m))
    (gone_or_not s.memory.state)

pub value_unique : (n : ℕ) (fits : List ℕ → Type 0) (s : State) (xs ys : List ℕ) (v w : Line) → Lawful n fits s xs v → Lawful n fits s ys w → v ≡ w
value_unique n fits s xs ys v w a b = same_chain_value n fits s ys v w (subst (λ (zs : List ℕ). Lawful n fits s zs v) (chain_unique n fits s xs ys v w a b) a) b
