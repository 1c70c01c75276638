-- What a lawful line says of the words that a pending step looks for.
use Rattle.std.proofs.Common.{◌≡◌, ◌≢◌, ◌⊎◌, ℕ, Bool, true, false, Option, Some, None, List, Contains, refl, sym, ap, subst, inl, inr, ⊎_elim, ◌∙◌, arith}
use Rattle.std.specs.Prelude.{cond}
use Rattle.std.proofs.lemmas.Bool.{cases_Bool}
use Rattle.sci_words.specs.declared.tags.Kind.{Kind}
use Rattle.sci_words.specs.declared.tags.Tag.{Tag}
use Rattle.sci_words.specs.declared.memory.Mem.{Mem}
use Rattle.sci_words.specs.declared.memory.MemState.{MemState}
use Rattle.sci_core.specs.declared.lines.Line.{Line}
use Rattle.sci_core.specs.declared.pending.Pending.{Pending}
use Rattle.sci_core.specs.State.{State}
use Rattle.sci_core.specs.Shape.{Phase, phase_of, flag_of}
use Rattle.sci_core.specs.Law.{is_front, is_body, has_memory_slot, can_be_held}
use Rattle.sci_core.specs.Chain.{IsPath, forward}
use Rattle.sci_core.specs.Copies.{IsCopying}
use Rattle.sci_core.specs.Facts.{KeptWordStands, LentWordStands}
use Rattle.sci_core.specs.Fronts.{IsFrontWord, IsBodyWord}
use Rattle.sci_core.specs.Mode.{IsDirtyFront, IsDirtyWaiting, is_dirty_step, is_turned}
use Rattle.sci_core.specs.Outside.{IsOutsider}
use Rattle.sci_core.specs.PendingStep.{IsOwnWord}
use Rattle.sci_core.specs.Row.{listed, purged_word}
use Rattle.sci_core.specs.Run.{HasValue}
use Rattle.sci_ops.proofs.Ending.Rest.{path_first, path_none, contains_or_not, front_or_body, next_in, memory_is, word_is}

-- the steps of a head that looks for its name in memory's word
abbrev pub is_heading : Phase → Bool
is_heading Phase.Converting = true
is_heading Phase.Leaving = true
is_heading Phase.Promoted = true
is_heading _ = false

clean_flag : (p : Pending) → is_heading (phase_of p) ≡ true → is_dirty_step p ≡ false → is_turned p ≡ false → flag_of p ≡ false
clean_flag (Pending.Converting f t) h d u = u
clean_flag (Pending.Leaving b l q) h d u = d
clean_flag (Pending.Promoted b l x) h d u = d
clean_flag _ h d u = absurd (grind (arith, h))

heading_kind : (p : Pending) (t : Tag) → is_heading (phase_of p) ≡ true → IsOwnWord p t → (t.kind ≡ Kind.Convert) ⊎ (t.kind ≡ Kind.Leaving)
heading_kind (Pending.Converting f u) t h w = inl (ap (λ (x : Tag). x.kind) w)
heading_kind (Pending.Leaving d l q) t h w = inr (ap (λ (x : Tag). x.kind) w)
heading_kind (Pending.Promoted d l x) t h w = inr (ap (λ (x : Tag). x.kind) w)
heading_kind _ t h w = absurd (grind (arith, h))

dirty_flag : (p : Pending) (t : Tag) (v : Line) → is_heading (phase_of p) ≡ true → IsOwnWord p t → IsDirtyFront t p v → flag_of p ≡ true
dirty_flag (Pending.Converting f u) t v h w d = let k : t.kind ≡ Kind.Convert = ap (λ (x : Tag). x.kind) w in grind (arith, k, d)
dirty_flag (Pending.Leaving b l q) t v h w d = let k : t.kind ≡ Kind.Leaving = ap (λ (x : Tag). x.kind) w in grind (arith, k, d)
dirty_flag (Pending.Promoted b l x) t v h w d = let k : t.kind ≡ Kind.Leaving = ap (λ (x : Tag). x.kind) w in grind (arith, k, d)
dirty_flag _ t v h w d = absurd (grind (arith, h))

waiting_flag : (p : Pending) → is_heading (phase_of p) ≡ true → IsDirtyWaiting p → flag_of p ≡ true
waiting_flag (Pending.Promoted d l x) h w = w
waiting_flag (Pending.Converting f t) h w = absurd w
waiting_flag (Pending.Leaving d l q) h w = absurd w
waiting_flag _ h w = absurd (grind (arith, h))

heading_front : (k : Kind) → (k ≡ Kind.Convert) ⊎ (k ≡ Kind.Leaving) → is_front k ≡ true
heading_front k h = grind (arith, h)

-- who has memory's slot is named by its word, or the word names nobody
borrower_named : (j : ℕ) (p : Pending) (m : Mem) → has_memory_slot (phase_of p) ≡ true → LentWordStands m j p → (is_heading (phase_of p) ≡ false) × ((m.forw ≡ Some j) ⊎ (m.forw ≡ None))
borrower_named j (Pending.Fetching f d l) m h w = (refl, inl (ap (λ (x : Mem). x.forw) w))
borrower_named j (Pending.WritingBack l) m h w = (refl, inr (ap (λ (x : Mem). x.forw) w))
borrower_named j _ m h w = absurd (grind (arith, h))

holding_kind : (p : Pending) (t : Tag) → phase_of p ≡ Phase.Holding → IsOwnWord p t → can_be_held t.kind ≡ true
holding_kind (Pending.Holding w l) t e h = subst (λ (x : Tag). can_be_held x.kind ≡ true) (sym h.0) h.1
holding_kind _ t e h = absurd (grind (arith, e))

copied_kind : (i j : ℕ) (p : Pending) (tags : ℕ → Tag) → IsCopying p i → KeptWordStands tags j p → (tags i).kind ≡ Kind.Valid
copied_kind i j (Pending.Copying f w l) tags c h = ap (λ (x : ℕ). (tags x).kind) (sym c) ∙ ap (λ (x : Tag). x.kind) h.0 ∙ h.1
copied_kind i j _ tags c h = absurd c

purged_not_held : (k : Kind) → k ≡ Kind.Purged → can_be_held k ≡ true → ⊥
purged_not_held k e h = grind (arith, e, h)

purged_not_valid : (k : Kind) → k ≡ Kind.Purged → k ≡ Kind.Valid → ⊥
purged_not_valid k e h = grind (arith, e, h)

rolling_no_outsider : (s : State) (i : ℕ) → (s.tags i).kind ≡ Kind.Roll → phase_of (s.steps i) ≡ Phase.Rolling → IsOutsider s i → ⊥
rolling_no_outsider s i k p o =
    ⊎_elim
    (λ a. let e = a.0 in grind (arith, k, e))
    (λ a. ⊎_elim (λ q. grind (arith, k, p, q)) (λ q. let e = q.0 in grind (arith, k, e)) a)
    o

not_body : (k : Kind) → is_front k ≡ true → is_body k ≡ true → ⊥
not_body k a b = grind (arith, a, b)

no_front : (k : Kind) → k ≡ Kind.Roll → is_front k ≡ true → ⊥
no_front k e f = grind (arith, e, f)

not_named : (m : Option ℕ) (i : ℕ) → m ≡ Some i → m ≡ None → ⊥
not_named m i e f = grind (arith, e, f)

state_is : (m : MemState) (d : Bool) → (m ≡ MemState.Home → ⊥) → (m ≡ MemState.Fresh → d ≡ false) → (m ≡ MemState.Gone → d ≡ true) → m ≡ cond d MemState.Gone MemState.Fresh
state_is MemState.Home d h f g = absurd (h refl)
state_is MemState.Fresh d h f g = rw (f refl) refl
state_is MemState.Gone d h f g = rw (g refl) refl

module _ (n : ℕ) (fits : List ℕ → Type 0) (s : State) (v : Line) (h : HasValue n fits s v) where
  pub own_at : (i : ℕ) (p : Pending) → s.steps i ≡ p → IsOwnWord p (s.tags i)
  own_at i p e = subst (λ (q : Pending). IsOwnWord q (s.tags i)) e (h.lawful.steps.own_word i)

  pub kept_at : (i : ℕ) (p : Pending) → s.steps i ≡ p → KeptWordStands s.tags i p
  kept_at i p e = subst (λ (q : Pending). KeptWordStands s.tags i q) e (h.remembered.kept_word i)

  pub lent_at : (i : ℕ) (p : Pending) → s.steps i ≡ p → LentWordStands s.memory i p
  lent_at i p e = subst (λ (q : Pending). LentWordStands s.memory i q) e (h.remembered.lent i)

  -- memory's word names nobody exactly under HOME
  pub home_names_nobody : s.memory.state ≡ MemState.Home → s.memory.forw ≡ None
  home_names_nobody e = subst (λ (l : List ℕ). IsPath s.memory.forw (forward s) l) (h.lawful.chain.empty.0 e) h.lawful.chain.path

  pub nobody_is_home : s.memory.forw ≡ None → s.memory.state ≡ MemState.Home
  nobody_is_home e = h.lawful.chain.empty.1 (path_none (forward s) h.chain s.memory.forw h.lawful.chain.path e)

  not_home : (i : ℕ) → s.memory.forw ≡ Some i → s.memory.state ≡ MemState.Home → ⊥
  not_home i e q = not_named s.memory.forw i e (home_names_nobody q)

  -- memory's slot is at home where a head looks for its name
  heading_not_lent : (i : ℕ) → s.memory.forw ≡ Some i → is_heading (phase_of (s.steps i)) ≡ true → s.memory.lent ≡ false
  heading_not_lent i e p =
      ⊎_elim
      (λ l.
      let b = h.lawful.slots.memory_in_hand.0 l in
      let c = borrower_named b.0 (s.steps b.0) s.memory b.1 (h.remembered.lent b.0) in
      ⊎_elim
      (λ q.
      let same : ◌≡◌ {A = Option ℕ} (Some b.0) (Some i) = sym q ∙ e in
      let at : b.0 ≡ i = cc in
      let no : is_heading (phase_of (s.steps i)) ≡ false = ap (λ (j : ℕ). is_heading (phase_of (s.steps j))) (sym at) ∙ c.0 in
      absurd (let o : true ≡ false = sym p ∙ no in cc))
      (λ q. absurd (not_named s.memory.forw i e q))
      c.1)
      (λ l. l)
      (cases_Bool s.memory.lent)

  -- a front under GONE has the bytes
  gone_front : (i : ℕ) → s.memory.state ≡ MemState.Gone → Contains h.chain i → IsFrontWord (s.tags i) → (f : Option ℕ) → (s.tags i).forw ≡ f → IsDirtyFront (s.tags i) (s.steps i) v ⊎ IsDirtyWaiting (s.steps i)
  gone_front i g c w None e = inl ((h.lawful.mode.gone g).last i (c, w, λ j q. absurd (not_named (s.tags i).forw j q e)))
  gone_front i g c w (Some j) e =
      ⊎_elim
      (λ a. inr ((h.lawful.mode.gone g).waiting i (c, (j, e, a))))
      (λ b. inl ((h.lawful.mode.gone g).last i (c, w, λ k q. let same : ◌≡◌ {A = Option ℕ} (Some j) (Some k) = sym e ∙ q in let at : j ≡ k = cc in subst (λ (x : ℕ). IsBodyWord (s.tags x)) at b)))
      (front_or_body n fits s v h j (next_in n fits s v h i j c e))

  heading_word : (i : ℕ) → Contains h.chain i → is_heading (phase_of (s.steps i)) ≡ true → IsFrontWord (s.tags i)
  heading_word i c p =
      let k = heading_front (s.tags i).kind (heading_kind (s.steps i) (s.tags i) p (h.lawful.steps.own_word i)) in
      ⊎_elim (λ a. a) (λ b. absurd (let o = b.0 in not_body (s.tags i).kind k o)) (front_or_body n fits s v h i c)

  -- memory's word, where it names such a head
  pub head_word : (i : ℕ) (d : Bool) → s.memory.forw ≡ Some i → is_heading (phase_of (s.steps i)) ≡ true → flag_of (s.steps i) ≡ d → s.memory ≡ listed d i
  head_word i d e p f =
      let c : Contains h.chain i = path_first (forward s) h.chain s.memory.forw h.lawful.chain.path i e in
      memory_is s.memory (cond d MemState.Gone MemState.Fresh) (Some i)
      (state_is s.memory.state d
      (λ q. not_home i e q)
      (λ q. sym f ∙ clean_flag (s.steps i) p ((h.lawful.mode.fresh q).clean_steps i c) ((h.lawful.mode.fresh q).not_turned i c))
      (λ q. sym f ∙ ⊎_elim
      (λ a. dirty_flag (s.steps i) (s.tags i) v p (h.lawful.steps.own_word i) a)
      (λ a. waiting_flag (s.steps i) p a)
      (gone_front i q c (heading_word i c p) (s.tags i).forw refl)))
      (heading_not_lent i e p)
      e

  -- a purged entry is not held
  pub cleared : (x : ℕ) (w : Tag) → s.tags x ≡ w → w.kind ≡ Kind.Purged → s.tags x ≡ purged_word w
  cleared x w e k =
      let kind : (s.tags x).kind ≡ Kind.Purged = ap (λ (t : Tag). t.kind) e ∙ k in
      let free : (s.tags x).held ≡ false =
      ⊎_elim
      (λ q. absurd (⊎_elim
      (λ a. purged_not_held (s.tags x).kind kind (holding_kind (s.steps x) (s.tags x) a (h.lawful.steps.own_word x)))
      (λ a. purged_not_valid (s.tags x).kind kind (copied_kind x a.0 (s.steps a.0) s.tags a.1 (h.remembered.kept_word a.0)))
      ((h.lawful.slots.held x).0 q)))
      (λ q. q)
      (cases_Bool (s.tags x).held) in
      word_is (s.tags x) Kind.Purged w.forw w.back kind free (ap (λ (t : Tag). t.forw) e) (ap (λ (t : Tag). t.back) e)

  -- who rolls out has a back link
  pub rolling_back : (i : ℕ) → (s.tags i).kind ≡ Kind.Roll → phase_of (s.steps i) ≡ Phase.Rolling → (s.tags i).back ≢ None
  rolling_back i k p =
      ⊎_elim
      (λ c. ⊎_elim (λ a. absurd (no_front (s.tags i).kind k a.0)) (λ b. b.1) (front_or_body n fits s v h i c))
      (λ m. absurd (rolling_no_outsider s i k p (h.lawful.outside i m)))
      (contains_or_not h.chain i)
