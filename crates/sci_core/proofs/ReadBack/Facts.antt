-- What a node has seen, told or kept still fits the words.
use Rattle.std.proofs.Common.{◌≡◌, ◌⊎◌, ◌≢◌, ℕ, ◌<◌, Bool, true, false, cond, Option, Some, None, List, refl, sym, ap, inl, inr, ⊎_elim, ◌∙◌, arith}
use Rattle.std.proofs.lemmas.Bool.{cases_lt, cases_eq}
use Rattle.std.proofs.lemmas.Bool.Decides.{nat_tests}
use Rattle.sci_words.specs.declared.tags.Kind.{Kind}
use Rattle.sci_words.specs.declared.tags.Tag.{Tag}
use Rattle.sci_words.specs.declared.memory.Mem.{Mem}
use Rattle.sci_words.specs.declared.memory.MemState.{MemState}
use Rattle.sci_core.specs.declared.pending.Pending.{Pending}
use Rattle.sci_core.specs.State.{State, lent_word}
use Rattle.sci_core.specs.Shape.{Phase, shape, phase_of, kept_of, flag_of, word_of, has_seen, seen_forw_of, seen_back_of}
use Rattle.sci_core.specs.Law.{Law, Witness, may_be_outside, looks, purges, is_body, suits, is_dirty_front}
use Rattle.sci_core.specs.Chain.{IsBehind}
use Rattle.sci_core.specs.Facts.{seen_forward, seen_back, HasTold, IsUntold, IsStaleBack, KeptWordStands, LentWordStands, RemembersTruly}
use Rattle.sci_core.specs.Row.{listed, home}
use Rattle.sci_core.proofs.ReadBack.Ranked.{Stands}
use Rattle.sci_core.proofs.ReadBack.LastFront.{is_last_front}
use Rattle.sci_core.proofs.ReadBack.PendingStep.{tag_is, not_held}

-- what a step that has looked says
saw : (p : Pending) (f : Option ℕ) → seen_forward p ≡ Some f → (looks (phase_of p) ≡ true) × (has_seen p ≡ true) × (seen_forw_of p ≡ f)
saw (Pending.Purging l (Some x)) f h = (refl, refl, grind (arith, h))
saw (Pending.Leaving d l (Some x)) f h = (refl, refl, grind (arith, h))
saw (Pending.Rolling t (Some x)) f h = (refl, refl, grind (arith, h))
saw _ f h = absurd (grind (arith, h))

saw_back : (p : Pending) (b : ℕ) → seen_back p ≡ Some b → (phase_of p ≡ Phase.Rolling) × (has_seen p ≡ true) × (seen_back_of p ≡ Some b)
saw_back (Pending.Rolling t (Some x)) b h = (refl, refl, h)
saw_back _ b h = absurd (grind (arith, h))

has_told : (p : Pending) → HasTold p → (phase_of p ≡ Phase.Rolling) × (flag_of p ≡ true)
has_told (Pending.Rolling t q) h = (refl, h)
has_told _ h = absurd h

is_untold : (p : Pending) → IsUntold p → (phase_of p ≡ Phase.Rolling) × (flag_of p ≡ false)
is_untold (Pending.Rolling t q) h = (refl, h)
is_untold _ h = absurd h

rolling_saw : (p : Pending) → phase_of p ≡ Phase.Rolling → has_seen p ≡ true → seen_forward p ≡ Some (seen_forw_of p)
rolling_saw (Pending.Rolling t (Some x)) e h = refl
rolling_saw (Pending.Rolling t None) e h = absurd (grind (arith, h))
rolling_saw _ e h = absurd (grind (arith, e))

purging_or_not : (k : Kind) → (k ≡ Kind.Purging) ⊎ (k ≢ Kind.Purging)
purging_or_not Kind.Purging = inl refl
purging_or_not _ = inr (λ e. grind (arith, e))

names_or_not : (f : Option ℕ) (i : ℕ) → (f ≡ Some i) ⊎ (f ≢ Some i)
names_or_not None i = inr (λ e. grind (arith, e))
names_or_not (Some j) i = ⊎_elim (λ e. inl (rw e refl)) (λ n. inr (λ e. grind (arith, e, n))) (cases_eq j i)

dirty_fetch : (k : Kind) (p : Phase) (f : Bool) → p ≡ Phase.Fetching → suits p k ≡ true → is_dirty_front k p f ≡ true → f ≡ true
dirty_fetch k p f e h d = grind (arith, e, h, d)

state_is : (m : MemState) (d : Bool) → (m ≡ MemState.Home → ⊥) → (m ≡ MemState.Fresh → d ≡ false) → (m ≡ MemState.Gone → d ≡ true) → m ≡ cond d MemState.Gone MemState.Fresh
state_is MemState.Home d h f g = absurd (h refl)
state_is MemState.Fresh d h f g = let e = f refl in rw e refl
state_is MemState.Gone d h f g = let e = g refl in rw e refl

mem_is : (m : Mem) (k : MemState) (l : Bool) (f : Option ℕ) → m.state ≡ k → m.lent ≡ l → m.forw ≡ f → m ≡ record { state = k; lent = l; forw = f }
mem_is m k l f e0 e1 e2 = rw (sym e0) (rw (sym e1) (rw (sym e2) refl))

some_is_not_none : {i : ℕ} → Some i ≡ None → ⊥
some_is_not_none e = grind (arith, e)

rolling_inside : (p : Phase) (k : Kind) → p ≡ Phase.Rolling → may_be_outside p k ≡ true → ⊥
rolling_inside p k e h = grind (arith, e, h)

module _ (s : State) (g : Witness) (o : Law (shape s) g) (nodes : List ℕ) (r : Stands g.rank nodes) where
  seen_some : (i x : ℕ) → seen_forward (s.steps i) ≡ Some (Some x) → ((s.tags i).forw ≡ Some x) ⊎ (IsBehind nodes i x → ⊥)
  seen_some i x h =
      let q = saw (s.steps i) (Some x) h in
      ⊎_elim
      (λ p. ⊎_elim (λ l. inl (o.sees.forw_seen i x q.0 q.1 q.2 p l)) (λ l. inr (λ b. let c = r.falls i x b in omega (arith, c, l))) (cases_lt (g.rank x) (g.rank i)))
      (λ z. inr (λ b. let c = r.lies i x b in omega (arith, c, z)))
      (cases_lt 0 (g.rank x))

  rolling_in : (i : ℕ) → phase_of (s.steps i) ≡ Phase.Rolling → 0 < g.rank i
  rolling_in i e = ⊎_elim (λ p. p) (λ z. absurd (rolling_inside _ _ e (o.outside.may_be i (omega (arith, z))))) (cases_lt 0 (g.rank i))

  stale : (i b : ℕ) → phase_of (s.steps i) ≡ Phase.Rolling → has_seen (s.steps i) ≡ true → seen_back_of (s.steps i) ≡ Some b → (s.tags g.last_front).kind ≡ Kind.Purging → (s.tags g.last_front).forw ≡ Some i → (s.tags i).back ≡ Some g.last_front → IsStaleBack s nodes i b g.last_front
  stale i b e h q k f l =
      let ahead = o.sees.back_ahead i b e h q in
      let p = rolling_in i e in
      (is_last_front s g o nodes r i p, k, f, l, (λ n. let c = ahead (rw n p) in grind (arith, c, n)), (λ n. let c = ahead (r.lies i b n) in let d = r.falls i b n in omega (arith, c, d)), o.sees.back_parting i b e h q)

  seen_back_link : (i b : ℕ) → seen_back (s.steps i) ≡ Some b → ((s.tags i).back ≡ Some b) ⊎ ((k : ℕ) × IsStaleBack s nodes i b k)
  seen_back_link i b h =
      let q = saw_back (s.steps i) b h in
      ⊎_elim
      (λ k. ⊎_elim
      (λ f. ⊎_elim (λ l. inr (g.last_front, stale i b q.0 q.1 q.2 k f l)) (λ n. inl (sym (o.sees.back_front i q.0 q.1 n) ∙ q.2)) (names_or_not (s.tags i).back g.last_front))
      (λ n. inl (sym (o.sees.back_behind i q.0 q.1 n) ∙ q.2))
      (names_or_not (s.tags g.last_front).forw i))
      (λ n. inl (sym (o.sees.back_seen i q.0 q.1 n) ∙ q.2))
      (purging_or_not (s.tags g.last_front).kind)

  told : (i : ℕ) (f : Option ℕ) → (s.tags i).forw ≡ f → HasTold (s.steps i) → (x : ℕ) × (seen_forward (s.steps i) ≡ Some (Some x)) × ((s.tags i).forw ≡ Some x) × ((s.tags x).back ≢ Some i)
  told i None e h = let t = has_told (s.steps i) h in absurd (o.sees.told_some i t.0 t.1 e)
  told i (Some x) e h =
      let t = has_told (s.steps i) h in
      (x, rolling_saw (s.steps i) t.0 (o.sees.told_seen i t.0 t.1) ∙ ap (λ (f : Option ℕ). Some f) (o.sees.told_forw i t.0 t.1 ∙ e), e, o.sees.told i x t.0 t.1 e)

  kept_purged : (i v : ℕ) (w : Tag) → purges (phase_of (s.steps i)) ≡ true → kept_of (s.steps i) ≡ Some v → word_of (s.steps i) ≡ w → (s.tags v ≡ w) × (w.kind ≡ Kind.Purged)
  kept_purged i v w p k e =
      let kind : w.kind ≡ Kind.Purged = sym (ap (λ (q : Tag). q.kind) e) ∙ o.words.victim_kind i p in
      let victim = o.words.victim i v p k in (
        tag_is (s.tags v) w.kind w.held w.forw w.back
            (victim ∙ sym kind)
            (not_held s g o v Kind.Purged victim refl ∙ sym (o.words.victim_held i p) ∙ ap (λ (q : Tag). q.held) e)
            (o.words.victim_forw i v p k ∙ ap (λ (q : Tag). q.forw) e)
            (o.words.victim_back i v p k ∙ ap (λ (q : Tag). q.back) e),
        kind,
      )

  kept_copied : (i f : ℕ) (w : Tag) → phase_of (s.steps i) ≡ Phase.Copying → kept_of (s.steps i) ≡ Some f → word_of (s.steps i) ≡ w → (s.tags f ≡ w) × (w.kind ≡ Kind.Valid) × (w.held ≡ true) × (w.back ≡ Some i)
  kept_copied i f w p k e =
      let kind : w.kind ≡ Kind.Valid = sym (ap (λ (q : Tag). q.kind) e) ∙ o.words.copied_kind i p in
      let held : w.held ≡ true = sym (ap (λ (q : Tag). q.held) e) ∙ o.words.copied_held i p in
      let back : w.back ≡ Some i = sym (ap (λ (q : Tag). q.back) e) ∙ o.words.copied_word_back i p in (
        tag_is (s.tags f) w.kind w.held w.forw w.back
            (o.words.copied i f p k ∙ sym kind)
            (o.slots.copied_held i f p k ∙ sym held)
            (o.words.copied_forw i f p k ∙ ap (λ (q : Tag). q.forw) e)
            (o.words.copied_back i f p k ∙ sym back),
        kind,
        held,
        back,
      )

  kept_word : (i : ℕ) (p : Pending) → s.steps i ≡ p → KeptWordStands s.tags i p
  kept_word i (Pending.Advancing l v w) e = kept_purged i v w (rw e refl) (ap kept_of e) (ap word_of e)
  kept_word i (Pending.Clearing l v w) e = kept_purged i v w (rw e refl) (ap kept_of e) (ap word_of e)
  kept_word i (Pending.Copying f w l) e = kept_copied i f w (ap phase_of e) (ap kept_of e) (ap word_of e)
  kept_word i _ e = tt

  -- the entry behind one in Roll is in the body
  rolling_next : (i x : ℕ) → phase_of (s.steps i) ≡ Phase.Rolling → (s.tags i).forw ≡ Some x → is_body (s.tags x).kind ≡ true
  rolling_next i x e f =
      let p = rolling_in i e in
      let c0 = o.order.next_in i x p f in
      let c1 = o.order.next_below i x p f in
      let c2 = o.fronts.front i p in
      let c3 = o.fronts.body x c0 in
      let c4 = o.own.suited i in
      let o : ℕ = 0 in
      grind (arith, nat_tests, c0, c1, c2, c3, c4, p, e)

  untold_is : (i x : ℕ) (b : Option ℕ) → (s.tags x).back ≡ b → phase_of (s.steps i) ≡ Phase.Rolling → flag_of (s.steps i) ≡ false → (s.tags i).forw ≡ Some x → b ≡ Some i
  untold_is i x None e p h f = absurd (o.own.body_back x (rolling_next i x p f) e)
  untold_is i x (Some m) e p h f = let c = o.sees.untold i x m p h f e in rw c refl

  -- who is Fetching under GONE is dirty
  fetching_dirty : (i : ℕ) → phase_of (s.steps i) ≡ Phase.Fetching → s.memory.state ≡ MemState.Gone → flag_of (s.steps i) ≡ true
  fetching_dirty i p h =
      let c = o.slots.fetching i p in
      let q = o.order.head_in i c in
      let top = o.order.head_top i g.last_front c in
      ⊎_elim
      (λ l. o.mode.gone_flag i h l)
      (λ l. let e = o.order.apart i g.last_front q (omega (arith, top, l)) in dirty_fetch (s.tags i).kind (phase_of (s.steps i)) (flag_of (s.steps i)) p (o.own.suited i) (rw e (o.mode.gone h)))
      (cases_lt (g.rank g.last_front) (g.rank i))

  lent_fetching : (i : ℕ) (d : Bool) → phase_of (s.steps i) ≡ Phase.Fetching → flag_of (s.steps i) ≡ d → s.memory ≡ lent_word (listed d i)
  lent_fetching i d p h =
      let c = o.slots.fetching i p in
      mem_is s.memory (cond d MemState.Gone MemState.Fresh) true (Some i)
      (state_is s.memory.state d
      (λ e. some_is_not_none (sym c ∙ o.mode.home e))
      (λ e. sym h ∙ o.mode.not_flagged i e (o.order.head_in i c) (rw p refl))
      (λ e. sym h ∙ fetching_dirty i p e))
      (o.slots.lends i (rw p refl))
      c

  lent_writing : (i : ℕ) → phase_of (s.steps i) ≡ Phase.WritingBack → s.memory ≡ lent_word home
  lent_writing i p = let h = o.slots.writing i p in mem_is s.memory MemState.Home true None h (o.slots.lends i (rw p refl)) (o.mode.home h)

  lent : (i : ℕ) (p : Pending) → s.steps i ≡ p → LentWordStands s.memory i p
  lent i (Pending.Fetching f d l) e = lent_fetching i d (ap phase_of e) (ap flag_of e)
  lent i (Pending.WritingBack l) e = lent_writing i (ap phase_of e)
  lent i _ e = tt

  pub facts_of_law : RemembersTruly s nodes
  facts_of_law = record {
    seen_none = λ i h. let q = saw (s.steps i) None h in o.sees.none_seen i q.0 q.1 q.2;
    seen_some = seen_some;
    seen_back_link = seen_back_link;
    told_successor = λ i. told i (s.tags i).forw refl;
    untold_successor = λ i x h. let t = is_untold (s.steps i) h in untold_is i x (s.tags x).back refl t.0 t.1;
    seen_unlinked = λ i x e h. let q = saw (s.steps i) (Some x) h in o.sees.unlinked i x e q.1 q.2;
    kept_word = λ i. kept_word i (s.steps i) refl;
    lent = λ i. lent i (s.steps i) refl;
  }
