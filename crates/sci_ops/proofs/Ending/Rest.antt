-- What a lawful line is where no node is on its way but, at most, one that purges.
use Rattle.std.proofs.Common.{◌≡◌, ◌≢◌, ◌⊎◌, ℕ, Bool, true, false, Option, Some, None, List, [], ◌∷◌, ◌++◌, All, Contains, refl, sym, ap, subst, inl, inr, ⊎_elim, ◌∙◌, arith}
use Rattle.std.specs.Prelude.{cond}
use Rattle.std.proofs.lemmas.Bool.{cases_Bool, cases_eq}
use Rattle.std.proofs.lemmas.List.Elements.{All-contains, Contains-append_cases}
use Rattle.sci_words.specs.declared.tags.Kind.{Kind}
use Rattle.sci_words.specs.declared.tags.Tag.{Tag}
use Rattle.sci_words.specs.declared.memory.Mem.{Mem}
use Rattle.sci_words.specs.declared.memory.MemState.{MemState}
use Rattle.sci_core.specs.declared.lines.Line.{Line}
use Rattle.sci_core.specs.declared.pending.Pending.{Pending}
use Rattle.sci_core.specs.State.{State, word, memory_word}
use Rattle.sci_core.specs.Shape.{Phase, phase_of}
use Rattle.sci_core.specs.Law.{is_front, is_body, has_memory_slot}
use Rattle.sci_core.specs.Chain.{IsPath, forward}
use Rattle.sci_core.specs.Fronts.{IsFrontWord, IsBodyWord, IsWaiting, IsLastFront, IsAdvancing}
use Rattle.sci_core.specs.Found.{is_dirty, is_settled_front, can_be_told}
use Rattle.sci_core.specs.Outside.{IsClearing, IsPassing}
use Rattle.sci_core.specs.PendingStep.{IsOwnWord, is_at_rest}
use Rattle.sci_core.specs.Copies.{IsCopying}
use Rattle.sci_core.specs.Mode.{IsDirtyFront}
use Rattle.sci_core.specs.Row.{listed}
use Rattle.sci_core.specs.Run.{HasValue}
use Rattle.sci_core.specs.Law.{is_valid}
use Rattle.sci_ops.proofs.Ending.Premise.{IsHead, FrontIs, IsNext, IsPrevious}
use Rattle.sci_core.proofs.ReadBack.Elements.{contains_none, contains_head, contains_tail, contains_cases}
use Rattle.sci_core.proofs.ReadBack.LastFront.{not_both}

-- Idle, or Purging
abbrev pub IsCalm : Pending → Type 0
IsCalm p = (phase_of p ≡ Phase.Idle) ⊎ (phase_of p ≡ Phase.Purging)

advancing_phase : (p : Pending) (i : ℕ) → IsAdvancing p i → phase_of p ≡ Phase.Advancing
advancing_phase (Pending.Advancing l v w) i h = refl
advancing_phase _ i h = absurd h

clearing_phase : (p : Pending) (i : ℕ) → IsClearing p i → phase_of p ≡ Phase.Clearing
clearing_phase (Pending.Clearing l v w) i h = refl
clearing_phase _ i h = absurd h

pub copying_phase : (p : Pending) (i : ℕ) → IsCopying p i → phase_of p ≡ Phase.Copying
copying_phase (Pending.Copying f w l) i h = refl
copying_phase _ i h = absurd h

calm_not_advancing : (p : Pending) → IsCalm p → phase_of p ≡ Phase.Advancing → ⊥
calm_not_advancing p c e = grind (arith, c, e)

calm_not_clearing : (p : Pending) → IsCalm p → phase_of p ≡ Phase.Clearing → ⊥
calm_not_clearing p c e = grind (arith, c, e)

calm_not_copying : (p : Pending) → IsCalm p → phase_of p ≡ Phase.Copying → ⊥
calm_not_copying p c e = grind (arith, c, e)

calm_not_holding : (p : Pending) → IsCalm p → phase_of p ≡ Phase.Holding → ⊥
calm_not_holding p c e = grind (arith, c, e)

calm_not_waiting : (t : Tag) (p : Pending) → IsCalm p → IsWaiting t p → ⊥
calm_not_waiting t p c w = grind (arith, c, w)

calm_no_memory : (x : Phase) → (x ≡ Phase.Idle) ⊎ (x ≡ Phase.Purging) → has_memory_slot x ≡ true → ⊥
calm_no_memory x c e = grind (arith, c, e)

rest_body : (k : Kind) → is_at_rest k ≡ true → is_body k ≡ true → k ≢ Kind.Purged → k ≡ Kind.Valid
rest_body k a b c = grind (arith, a, b, c)

rest_front : (k : Kind) → is_at_rest k ≡ true → is_front k ≡ true → (k ≡ Kind.Fresh) ⊎ (k ≡ Kind.Dirty)
rest_front k a b = grind (arith, a, b)

state_cases : (m : MemState) → (m ≡ MemState.Home) ⊎ ((m ≡ MemState.Fresh) ⊎ (m ≡ MemState.Gone))
state_cases MemState.Home = inl refl
state_cases MemState.Fresh = inr (inl refl)
state_cases MemState.Gone = inr (inr refl)

pub memory_is : (m : Mem) (state : MemState) (f : Option ℕ) → m.state ≡ state → m.lent ≡ false → m.forw ≡ f → m ≡ memory_word state f
memory_is m state f a b c = λ i. record { state = a i; lent = b i; forw = c i }

pub word_is : (t : Tag) (k : Kind) (f b : Option ℕ) → t.kind ≡ k → t.held ≡ false → t.forw ≡ f → t.back ≡ b → t ≡ word k f b
word_is t k f b x y z w = λ i. record { kind = x i; held = y i; forw = z i; back = w i }

-- the first of a path, and what the entries of a path name
pub path_first : (forw : ℕ → Option ℕ) (xs : List ℕ) (f : Option ℕ) → IsPath f forw xs → (x : ℕ) → f ≡ Some x → Contains xs x
path_first forw [] f p x e = absurd (grind (arith, p, e))
path_first forw (y ∷ ys) f p x e = let q = p.0 in let h : x ≡ y = grind (arith, q, e) in rw h (contains_head y ys)

path_next : (forw : ℕ → Option ℕ) (xs : List ℕ) (f : Option ℕ) → IsPath f forw xs → (i j : ℕ) → Contains xs i → forw i ≡ Some j → Contains xs j
path_next forw [] f p i j c e = absurd (contains_none i c)
path_next forw (x ∷ xs) f p i j c e = contains_tail x xs j (⊎_elim (λ q. path_first forw xs (forw x) p.1 j (subst (λ (z : ℕ). forw z ≡ Some j) q e)) (λ d. path_next forw xs (forw x) p.1 i j d e) (contains_cases x xs i c))

path_previous : (forw : ℕ → Option ℕ) (xs : List ℕ) (f : Option ℕ) → IsPath f forw xs → (x : ℕ) → Contains xs x → (f ≡ Some x) ⊎ ((a : ℕ) × Contains xs a × (forw a ≡ Some x))
path_previous forw [] f p x c = absurd (contains_none x c)
path_previous forw (y ∷ ys) f p x c =
    ⊎_elim
    (λ e. inl (p.0 ∙ ap (λ (z : ℕ). Some z) (sym e)))
    (λ d. inr (⊎_elim (λ q. (y, contains_head y ys, q)) (λ q. (q.0, contains_tail y ys q.0 q.1, q.2)) (path_previous forw ys (forw y) p.1 x d)))
    (contains_cases y ys x c)

pub path_none : (forw : ℕ → Option ℕ) (xs : List ℕ) (f : Option ℕ) → IsPath f forw xs → f ≡ None → xs ≡ []
path_none forw [] f p e = refl
path_none forw (y ∷ ys) f p e = let q = p.0 in absurd (grind (arith, q, e))

first_is_front : (tags : ℕ → Tag) (fronts body : List ℕ) (f : Option ℕ) → All (λ i. IsFrontWord (tags i)) fronts → IsPath f (λ i. (tags i).forw) (fronts ++ body) → (fronts ≡ [] → (fronts ++ body) ≡ []) → (x : ℕ) → f ≡ Some x → IsFrontWord (tags x)
first_is_front tags [] body f a p q x e = absurd (contains_none x (subst (λ (l : List ℕ). Contains l x) (q refl) (path_first (λ i. (tags i).forw) body f p x e)))
first_is_front tags (y ∷ ys) body f a p q x e =
    let r = p.0 in
    let h : x ≡ y = grind (arith, r, e) in
    rw h (All-contains (λ i. IsFrontWord (tags i)) (y ∷ ys) y a (contains_head y ys))

module _ (n : ℕ) (fits : List ℕ → Type 0) (s : State) (v : Line) (h : HasValue n fits s v) where
  pub front_or_body : (i : ℕ) → Contains h.chain i → IsFrontWord (s.tags i) ⊎ IsBodyWord (s.tags i)
  front_or_body i c =
      let p = h.lawful.fronts.parts in
      let d : Contains (p.0 ++ p.1) i = subst (λ (l : List ℕ). Contains l i) p.2 c in
      ⊎_elim (λ q. inl (All-contains (λ j. IsFrontWord (s.tags j)) p.0 i p.3 q)) (λ q. inr (All-contains (λ j. IsBodyWord (s.tags j)) p.1 i p.4 q)) (Contains-append_cases p.0 p.1 i d)

  pub next_in : (a b : ℕ) → Contains h.chain a → (s.tags a).forw ≡ Some b → Contains h.chain b
  next_in a b c e = path_next (forward s) h.chain s.memory.forw h.lawful.chain.path a b c e

module _ (n : ℕ) (fits : List ℕ → Type 0) (s : State) (v : Line) (h : HasValue n fits s v) (calm : (i : ℕ) → IsCalm (s.steps i)) where
  nodes : List ℕ
  nodes = h.chain

  pub not_held : (i : ℕ) → (s.tags i).held ≡ false
  not_held i = ⊎_elim (λ e. absurd (⊎_elim (λ q. calm_not_holding (s.steps i) (calm i) q) (λ q. calm_not_copying (s.steps q.0) (calm q.0) (copying_phase (s.steps q.0) i q.1)) ((h.lawful.slots.held i).0 e))) (λ e. e) (cases_Bool (s.tags i).held)

  pub not_lent : s.memory.lent ≡ false
  not_lent = ⊎_elim (λ e. let q = h.lawful.slots.memory_in_hand.0 e in absurd (calm_no_memory (phase_of (s.steps q.0)) (calm q.0) q.1)) (λ e. e) (cases_Bool s.memory.lent)

  rests : (i : ℕ) → s.steps i ≡ Pending.Idle → is_at_rest (s.tags i).kind ≡ true
  rests i e = subst (λ (p : Pending). IsOwnWord p (s.tags i)) e (h.lawful.steps.own_word i)

  not_purged : (i : ℕ) → Contains h.chain i → (s.tags i).kind ≢ Kind.Purged
  not_purged i c e = let q = (h.lawful.fronts.purged i c).0 e in calm_not_advancing (s.steps q.0) (calm q.0) (advancing_phase (s.steps q.0) i q.3)

  -- no front waits, so what stands behind an entry is in the body
  next_body : (a b : ℕ) → Contains h.chain a → (s.tags a).forw ≡ Some b → IsBodyWord (s.tags b)
  next_body a b c e = ⊎_elim (λ f. absurd (calm_not_waiting (s.tags a) (s.steps a) (calm a) (h.lawful.fronts.waiting a (c, (b, e, f))))) (λ q. q) (front_or_body n fits s v h b (next_in n fits s v h a b c e))

  pub next_not_front : (a b : ℕ) → Contains h.chain a → (s.tags a).forw ≡ Some b → is_front (s.tags b).kind ≡ true → ⊥
  next_not_front a b c e f = not_both (s.tags b).kind f (next_body a b c e).0

  pub next_valid : (a b : ℕ) → Contains h.chain a → (s.tags a).forw ≡ Some b → s.steps b ≡ Pending.Idle → (s.tags b).kind ≡ Kind.Valid
  next_valid a b c e i = rest_body (s.tags b).kind (rests b i) (next_body a b c e).0 (not_purged b (next_in n fits s v h a b c e))

  last_front : (i : ℕ) → Contains h.chain i → IsFrontWord (s.tags i) → IsLastFront s h.chain i
  last_front i c f = (c, f, λ j e. next_body i j c e)

valid_listed : (k : Kind) → is_settled_front k ≡ true → is_valid k ≡ true
valid_listed k h = grind (arith, h)

front_kind : (k : Kind) → is_settled_front k ≡ true → is_front k ≡ true
front_kind k h = grind (arith, h)

rest_not_roll : (k : Kind) → is_at_rest k ≡ true → k ≢ Kind.Roll
rest_not_roll k h e = grind (arith, h, e)

rest_not_purging : (k : Kind) → is_at_rest k ≡ true → k ≢ Kind.Purging
rest_not_purging k h e = grind (arith, h, e)

rest_told : (k : Kind) → is_at_rest k ≡ true → k ≢ Kind.Purged → (is_front k ≡ true) ⊎ (is_body k ≡ true) → can_be_told k ≡ true
rest_told k h n f = grind (arith, h, n, f)

fresh_not_gone : (t : Tag) (p : Pending) (v : Line) → t.kind ≡ Kind.Fresh → phase_of p ≡ Phase.Idle → IsDirtyFront t p v → ⊥
fresh_not_gone t p v k e d = grind (arith, k, e, d)

dirty_head : (d : Bool) → is_dirty (cond d Kind.Dirty Kind.Fresh) ≡ d
dirty_head true = refl
dirty_head false = refl

valid_no_front : (k : Kind) → k ≡ Kind.Valid → is_front k ≡ true → ⊥
valid_no_front k e f = grind (arith, e, f)

pub contains_or_not : (xs : List ℕ) (i : ℕ) → Contains xs i ⊎ (Contains xs i → ⊥)
contains_or_not [] i = inr (contains_none i)
contains_or_not (x ∷ xs) i =
    ⊎_elim
    (λ e. inl (rw e (contains_head x xs)))
    (λ n. ⊎_elim (λ c. inl (contains_tail x xs i c)) (λ m. inr (λ c. ⊎_elim n m (contains_cases x xs i c))) (contains_or_not xs i))
    (cases_eq i x)

passing_not_purged : (t : Tag) (p : Pending) → IsPassing t p → t.kind ≡ Kind.Purged → ⊥
passing_not_purged t p h e = grind (arith, h, e)

invalid_not_purged : (k : Kind) → k ≡ Kind.Invalid → k ≡ Kind.Purged → ⊥
invalid_not_purged k h e = grind (arith, h, e)

module _ (n : ℕ) (fits : List ℕ → Type 0) (s : State) (v : Line) (h : HasValue n fits s v) (idle : (i : ℕ) → s.steps i ≡ Pending.Idle) where
  calm : (i : ℕ) → IsCalm (s.steps i)
  calm i = inl (ap phase_of (idle i))

  pub at_rest : (i : ℕ) → is_at_rest (s.tags i).kind ≡ true
  at_rest i = rests n fits s v h calm i (idle i)

  pub free_at_rest : (i : ℕ) → (s.tags i).held ≡ false
  free_at_rest i = not_held n fits s v h calm i

  pub none_purged : (i : ℕ) → (s.tags i).kind ≢ Kind.Purged
  none_purged i e =
      ⊎_elim
      (λ c. not_purged n fits s v h calm i c e)
      (λ m. ⊎_elim
      (λ a. invalid_not_purged (s.tags i).kind a.0 e)
      (λ q. ⊎_elim (λ a. passing_not_purged (s.tags i) (s.steps i) a e) (λ a. calm_not_clearing (s.steps a.1.0) (calm a.1.0) (clearing_phase (s.steps a.1.0) i a.1.1)) q)
      (h.lawful.outside i m))
      (contains_or_not h.chain i)

  front_word : (x : ℕ) → s.memory.forw ≡ Some x → IsFrontWord (s.tags x)
  front_word x e =
      let p = h.lawful.fronts.parts in
      let path : IsPath s.memory.forw (forward s) (p.0 ++ p.1) = subst (λ (l : List ℕ). IsPath s.memory.forw (forward s) l) p.2 h.lawful.chain.path in
      first_is_front s.tags p.0 p.1 s.memory.forw p.3 path (λ q. sym p.2 ∙ p.5 q) x e

  -- the head is Fresh under FRESH, Dirty under GONE
  at_front : (x : ℕ) → s.memory.forw ≡ Some x → (d : Bool) × (s.memory ≡ listed d x) × IsHead d (s.tags x)
  at_front x e =
      let c : Contains h.chain x = path_first (forward s) h.chain s.memory.forw h.lawful.chain.path x e in
      let kind : ((s.tags x).kind ≡ Kind.Fresh) ⊎ ((s.tags x).kind ≡ Kind.Dirty) = rest_front (s.tags x).kind (at_rest x) (front_word x e).0 in
      let free : (s.tags x).held ≡ false = not_held n fits s v h calm x in
      let lent : s.memory.lent ≡ false = not_lent n fits s v h calm in
      ⊎_elim
      (λ q. absurd (contains_none x (subst (λ (l : List ℕ). Contains l x) (h.lawful.chain.empty.0 q) c)))
      (λ z. ⊎_elim
      (λ q. ⊎_elim (λ k. (false, memory_is s.memory MemState.Fresh (Some x) q lent e, (k, free))) (λ k. absurd ((h.lawful.mode.fresh q).not_dirty x c k)) kind)
      (λ q. ⊎_elim (λ k. absurd (fresh_not_gone (s.tags x) (s.steps x) v k (ap phase_of (idle x)) ((h.lawful.mode.gone q).last x (last_front n fits s v h calm x c (front_word x e))))) (λ k. (true, memory_is s.memory MemState.Gone (Some x) q lent e, (k, free))) kind)
      z)
      (state_cases s.memory.state)

  front_as : (f : Option ℕ) → s.memory.forw ≡ f → FrontIs s f
  front_as None e = memory_is s.memory MemState.Home None (h.lawful.chain.empty.1 (path_none (forward s) h.chain s.memory.forw h.lawful.chain.path e)) (not_lent n fits s v h calm) e
  front_as (Some x) e = at_front x e

  pub front : FrontIs s s.memory.forw
  front = front_as s.memory.forw refl

  -- who is Fresh or Dirty is the head
  pub own_front : (i : ℕ) → is_settled_front (s.tags i).kind ≡ true → s.memory ≡ listed (is_dirty (s.tags i).kind) i
  own_front i k =
      let c : Contains h.chain i = h.coherent.reached i (valid_listed (s.tags i).kind k) in
      ⊎_elim
      (λ e. let q = at_front i e in let d : q.0 ≡ is_dirty (s.tags i).kind = sym (ap is_dirty q.2.0 ∙ dirty_head q.0) in subst (λ (b : Bool). s.memory ≡ listed b i) d q.1)
      (λ q. absurd (next_not_front n fits s v h calm q.0 i q.1 q.2 (front_kind (s.tags i).kind k)))
      (path_previous (forward s) h.chain s.memory.forw h.lawful.chain.path i c)

  -- back links are exact
  linked : (a b : ℕ) → Contains h.chain a → (s.tags a).forw ≡ Some b → (s.tags b).back ≡ Some a
  linked a b c e = h.lawful.back_links.neighbour a b (c, e) (next_body n fits s v h calm a b c e).0 (rest_not_roll (s.tags a).kind (at_rest a)) (rest_not_purging (s.tags a).kind (at_rest a))

  pub next : (i x : ℕ) → is_valid (s.tags i).kind ≡ true → (s.tags i).forw ≡ Some x → IsNext i (s.tags x)
  next i x k e =
      let c : Contains h.chain i = h.coherent.reached i k in
      (next_valid n fits s v h calm i x c e (idle x), not_held n fits s v h calm x, linked i x c e)

  pub previous : (i : ℕ) → (s.tags i).kind ≡ Kind.Valid → (b : ℕ) × ((s.tags i).back ≡ Some b) × IsPrevious i (s.tags b)
  previous i k =
      let valid : is_valid (s.tags i).kind ≡ true = ap is_valid k in
      let c : Contains h.chain i = h.coherent.reached i valid in
      ⊎_elim
      (λ e. absurd (valid_no_front (s.tags i).kind k (front_word i e).0))
      (λ q.
      let word : (is_front (s.tags q.0).kind ≡ true) ⊎ (is_body (s.tags q.0).kind ≡ true) = ⊎_elim (λ f. inl f.0) (λ f. inr f.0) (front_or_body n fits s v h q.0 q.1) in
      (q.0, linked q.0 i q.1 q.2, (rest_told (s.tags q.0).kind (at_rest q.0) (not_purged n fits s v h calm q.0 q.1) word, not_held n fits s v h calm q.0, q.2)))
      (path_previous (forward s) h.chain s.memory.forw h.lawful.chain.path i c)

  pub not_itself : (i : ℕ) → is_valid (s.tags i).kind ≡ true → (s.tags i).back ≢ Some i
  not_itself i k = h.lawful.back_links.itself i (h.coherent.reached i k)
