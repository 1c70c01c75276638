-- The headline follows from the definitions: a lawful line is coherent.
use Rattle.std.proofs.Common.{◌≡◌, ◌⊎◌, ℕ, true, Option, Some, None, List, [], ◌∷◌, ◌++◌, All, Contains, refl, sym, subst, inl, inr, ⊎_elim, ◌∙◌, arith}
use Rattle.std.proofs.lemmas.Bool.{cases_eq}
use Rattle.std.proofs.lemmas.List.Elements.{All-contains, All-tail, Contains-append_cases, Contains-append_right}
use Rattle.sci_words.specs.declared.tags.Kind.{Kind}
use Rattle.sci_words.specs.declared.tags.Tag.{Tag}
use Rattle.sci_core.specs.declared.lines.Line.{Line}
use Rattle.sci_core.specs.declared.pending.Pending.{Pending}
use Rattle.sci_core.specs.State.{State}
use Rattle.sci_core.specs.Law.{is_front, is_valid}
use Rattle.sci_core.specs.Chain.{IsPath, IsBehind, forward}
use Rattle.sci_core.specs.Fronts.{IsFrontWord, IsBodyWord, IsWaiting}
use Rattle.sci_core.specs.Sharers.{IsValidSharer, IsDirtySharer, IsSoleSharer, MayWrite, is_dirty_sharer}
use Rattle.sci_core.specs.Outside.{IsOutsider}
use Rattle.sci_core.specs.Lawful.{Lawful}
use Rattle.sci_core.specs.Headline.{IsCoherent}
use Rattle.sci_core.proofs.ReadBack.Elements.{contains_none, contains_head, contains_tail, contains_cases}
use Rattle.sci_core.proofs.ReadBack.LastFront.{not_both}

contains_or_not : (xs : List ℕ) (i : ℕ) → Contains xs i ⊎ (Contains xs i → ⊥)
contains_or_not [] i = inr (contains_none i)
contains_or_not (x ∷ xs) i =
    ⊎_elim
    (λ e. inl (rw e (contains_head x xs)))
    (λ n. ⊎_elim (λ c. inl (contains_tail x xs i c)) (λ m. inr (λ c. ⊎_elim n m (contains_cases x xs i c))) (contains_or_not xs i))
    (cases_eq i x)

-- what a node in the chain names is in the chain
next_in : (forw : ℕ → Option ℕ) (xs : List ℕ) (f : Option ℕ) → IsPath f forw xs → (i j : ℕ) → Contains xs i → forw i ≡ Some j → Contains xs j
next_in forw [] f p i j c e = absurd (contains_none i c)
next_in forw (x ∷ xs) f p i j c e = contains_tail x xs j (⊎_elim (λ q. next_of forw xs (forw x) p.1 j (subst (λ (z : ℕ). forw z ≡ Some j) q e)) (λ d. next_in forw xs (forw x) p.1 i j d e) (contains_cases x xs i c))
  where
    next_of : (forw : ℕ → Option ℕ) (xs : List ℕ) (f : Option ℕ) → IsPath f forw xs → (j : ℕ) → f ≡ Some j → Contains xs j
    next_of forw [] f p j e = absurd (grind (arith, p, e))
    next_of forw (x ∷ xs) f p j e = let q = p.0 in let h : j ≡ x = grind (arith, q, e) in rw h (contains_head x xs)

-- nobody stands behind an entry without a forward link
none_behind : (forw : ℕ → Option ℕ) (xs : List ℕ) (f : Option ℕ) → IsPath f forw xs → (i j : ℕ) → forw i ≡ None → IsBehind xs i j → ⊥
none_behind forw [] f p i j e b = b
none_behind forw (x ∷ xs) f p i j e b = ⊎_elim (λ h. none_after forw xs (forw x) p.1 j (rw h.0 e) h.1) (λ h. none_behind forw xs (forw x) p.1 i j e h) b
  where
    none_after : (forw : ℕ → Option ℕ) (xs : List ℕ) (f : Option ℕ) → IsPath f forw xs → (j : ℕ) → f ≡ None → Contains xs j → ⊥
    none_after forw [] f p j e c = contains_none j c
    none_after forw (x ∷ xs) f p j e c = let q = p.0 in grind (arith, q, e)

-- behind the first front whose next entry is none or a body entry there is no front
last_unique : (tags : ℕ → Tag) (fronts body : List ℕ) (f : Option ℕ) → All (λ i. IsFrontWord (tags i)) fronts → IsPath f (λ i. (tags i).forw) (fronts ++ body) → (i j : ℕ) → Contains fronts i → Contains fronts j → ((k : ℕ) → (tags i).forw ≡ Some k → IsBodyWord (tags k)) → ((k : ℕ) → (tags j).forw ≡ Some k → IsBodyWord (tags k)) → i ≡ j
last_unique tags [] body f a p i j c d m n = absurd (contains_none i c)
last_unique tags (x ∷ []) body f a p i j c d m n =
    ⊎_elim (λ e. ⊎_elim (λ h. e ∙ sym h) (λ h. absurd (contains_none j h)) (contains_cases x [] j d)) (λ e. absurd (contains_none i e)) (contains_cases x [] i c)
last_unique tags (x ∷ y ∷ rest) body f a p i j c d m n =
    let front = All-contains (λ i. IsFrontWord (tags i)) (x ∷ y ∷ rest) y a (contains_tail x (y ∷ rest) y (contains_head y rest)) in
    let not_x : (z : ℕ) → ((k : ℕ) → (tags z).forw ≡ Some k → IsBodyWord (tags k)) → z ≡ x → ⊥ = λ z w e. not_both (tags y).kind front.0 (w y (subst (λ (q : ℕ). (tags q).forw ≡ Some y) (sym e) p.1.0)).0 in
    let behind : (z : ℕ) → Contains (x ∷ y ∷ rest) z → (z ≡ x → ⊥) → Contains (y ∷ rest) z = λ z h w. ⊎_elim (λ e. absurd (w e)) (λ h. h) (contains_cases x (y ∷ rest) z h) in
    last_unique tags (y ∷ rest) body (tags x).forw (All-tail (λ i. IsFrontWord (tags i)) x (y ∷ rest) a) p.1 i j (behind i c (not_x i m)) (behind j d (not_x j n)) m n

-- each body entry stands behind each front
body_behind : (fronts body : List ℕ) (i j : ℕ) → Contains fronts i → Contains body j → IsBehind (fronts ++ body) i j
body_behind [] body i j c d = absurd (contains_none i c)
body_behind (x ∷ xs) body i j c d = ⊎_elim (λ e. inl (sym e, Contains-append_right xs body j d)) (λ h. inr (body_behind xs body i j h d)) (contains_cases x xs i c)

dirty_is_front : (k : Kind) → is_dirty_sharer k ≡ true → is_front k ≡ true
dirty_is_front k d = grind (arith, d)

dirty_is_valid : (k : Kind) → is_dirty_sharer k ≡ true → is_valid k ≡ true
dirty_is_valid k d = grind (arith, d)

waiting_not_valid : (t : Tag) (p : Pending) → IsWaiting t p → is_valid t.kind ≡ true → ⊥
waiting_not_valid t p w v = grind (arith, w, v)

outsider_not_valid : (s : State) (i : ℕ) → IsOutsider s i → IsValidSharer s i → ⊥
outsider_not_valid s i h v = ⊎_elim (λ a. let e = a.0 in grind (arith, e, v)) (λ b. ⊎_elim (λ a. grind (arith, a, v)) (λ a. let e = a.0 in grind (arith, e, v)) b) h

module _ (n : ℕ) (fits : List ℕ → Type 0) (s : State) (nodes : List ℕ) (v : Line) (o : Lawful n fits s nodes v) where
  reached : (i : ℕ) → IsValidSharer s i → Contains nodes i
  reached i h = ⊎_elim (λ c. c) (λ m. absurd (outsider_not_valid s i (o.outside i m) h)) (contains_or_not nodes i)

  fronts : List ℕ
  fronts = o.fronts.parts.0

  body : List ℕ
  body = o.fronts.parts.1

  in_parts : (i : ℕ) → Contains nodes i → Contains fronts i ⊎ Contains body i
  unfolding fronts body
  in_parts i c = Contains-append_cases fronts body i (subst (λ (xs : List ℕ). Contains xs i) o.fronts.parts.2 c)

  front_word : (i : ℕ) → Contains fronts i → IsFrontWord (s.tags i)
  unfolding fronts
  front_word i c = All-contains (λ k. IsFrontWord (s.tags k)) fronts i o.fronts.parts.3 c

  body_word : (i : ℕ) → Contains body i → IsBodyWord (s.tags i)
  unfolding body
  body_word i c = All-contains (λ k. IsBodyWord (s.tags k)) body i o.fronts.parts.4 c

  -- behind a front that is valid there is no front
  body_next : (i : ℕ) → IsValidSharer s i → (j : ℕ) → (s.tags i).forw ≡ Some j → IsBodyWord (s.tags j)
  body_next i h j e =
      let c = reached i h in
      ⊎_elim
      (λ f. absurd (waiting_not_valid (s.tags i) (s.steps i) (o.fronts.waiting i (c, (j, e, front_word j f))) h))
      (λ b. body_word j b)
      (in_parts j (next_in (forward s) nodes s.memory.forw o.chain.path i j c e))

  -- of two valid fronts, they are one
  one_front : (i j : ℕ) → IsValidSharer s i → IsValidSharer s j → Contains fronts i → Contains fronts j → i ≡ j
  unfolding fronts body
  one_front i j a b c d = last_unique s.tags fronts body s.memory.forw o.fronts.parts.3 (subst (IsPath s.memory.forw (forward s)) o.fronts.parts.2 o.chain.path) i j c d (body_next i a) (body_next j b)

  valid_dirty : (i : ℕ) → IsDirtySharer s i → IsValidSharer s i
  valid_dirty i d = dirty_is_valid (s.tags i).kind d

  front_dirty : (i : ℕ) → IsDirtySharer s i → Contains fronts i
  front_dirty i d = ⊎_elim (λ f. f) (λ b. absurd (not_both (s.tags i).kind (dirty_is_front (s.tags i).kind d) (body_word i b).0)) (in_parts i (reached i (valid_dirty i d)))

  dirty_first : (i j : ℕ) → IsDirtySharer s i → IsValidSharer s j → (i ≡ j) ⊎ IsBehind nodes i j
  unfolding fronts body
  dirty_first i j d h =
      ⊎_elim
      (λ f. inl (one_front i j (valid_dirty i d) h (front_dirty i d) f))
      (λ b. inr (subst (λ (xs : List ℕ). IsBehind xs i j) (sym o.fronts.parts.2) (body_behind fronts body i j (front_dirty i d) b)))
      (in_parts j (reached j h))

  writer : (i : ℕ) → MayWrite s i → IsSoleSharer s i
  writer i m =
      let d : IsDirtySharer s i = rw m.0 refl in
      (valid_dirty i d, λ j h. ⊎_elim (λ e. e) (λ b. absurd (none_behind (forward s) nodes s.memory.forw o.chain.path i j m.1 b)) (dirty_first i j d h))

  pub headline : IsCoherent n s nodes v
  headline = record {
    chain = o.chain;
    reached = reached;
    back_links = o.back_links.neighbour;
    one_dirty = λ i j a b. one_front i j (valid_dirty i a) (valid_dirty j b) (front_dirty i a) (front_dirty j b);
    dirty_first = dirty_first;
    one_value = o.copies.sharer;
    writer = writer;
  }
