-- A node that isn't Idle and doesn't go on waits for another one that isn't Idle.
use Rattle.std.proofs.Common.{◌≡◌, ◌≢◌, ◌⊎◌, ℕ, ◌<◌, ◌≤◌, Bool, true, false, cond, ◌&&◌, ◌||◌, not, Option, Some, None, is_some, refl, sym, ap, subst, inl, inr, ⊎_elim, ◌∙◌, arith}
use Rattle.std.proofs.lemmas.Bool.Decides.{nat_tests}
use Rattle.std.proofs.lemmas.Bool.{cases_lt, cases_Bool}
use Rattle.std.specs.Option.{option_or}
use Rattle.sci_words.specs.declared.tags.Kind.{Kind}
use Rattle.sci_words.specs.declared.tags.Tag.{Tag}
use Rattle.sci_words.specs.declared.memory.MemState.{MemState}
use Rattle.sci_words.specs.Tag.{tag_well_formed}
use Rattle.sci_core.specs.declared.lines.Line.{Line}
use Rattle.sci_core.specs.declared.pending.Pending.{Pending}
use Rattle.sci_core.specs.declared.stages.Stage.{Stage}
use Rattle.sci_core.specs.declared.waiting.Obstacle.{Obstacle}
use Rattle.sci_core.specs.State.{State}
use Rattle.sci_core.specs.Shape.{Phase, shape, phase_of, flag_of, has_copy, kept_of}
use Rattle.sci_core.specs.Law.{Law, Witness, suits, purges, is_body, is_front, has_memory_slot}
use Rattle.sci_core.specs.Chain.{forward}
use Rattle.sci_core.specs.Facts.{IsUntold}
use Rattle.sci_core.specs.Found.{names, is_fresh, is_dirty, can_be_told, is_found}
use Rattle.sci_core.specs.Stage.{stage_of}
use Rattle.sci_core.specs.WellFormed.{HasWellFormedWords}
use Rattle.sci_core.specs.Progress.{tag_at, attaches, purges_or_adopts, is_next, is_before, goes_in, goes}
use Rattle.sci_core.specs.Waiting.{is_purged, is_purging, is_rolling_out, borrows, is_taken, works_on, is_in_front, is_due, IsDue, IsDueAt, IsDueInFront, WaitsIn, first_due, due_at, due_at_link, sought}
use Rattle.sci_core.proofs.First.{first_holds, first_some, first_none}
use Rattle.sci_core.proofs.Progress.{rolling_in, rolling_kind, rolling_body, roll_rolling, rolling_before}
use Rattle.sci_core.proofs.GoingOn.{found, next_at, before_at, purges_at}
use Rattle.sci_core.proofs.ReadBack.{path_of_law, facts_at}
use Rattle.sci_core.proofs.ReadBack.Ranked.{stands}
use Rattle.sci_core.proofs.ReadBack.BackLinks.{back_links_of_law}

not_both : (b : Bool) → b ≡ true → b ≡ false → ⊥
not_both b h k = cc

holding_or_not : (p : Phase) → (p ≡ Phase.Holding) ⊎ (p ≢ Phase.Holding)
holding_or_not Phase.Holding = inl refl
holding_or_not _ = inr (λ e. grind (arith, e))

holding_works : (p : Pending) (x : ℕ) → phase_of p ≡ Phase.Holding → works_on x x (stage_of p) ≡ true
holding_works (Pending.Holding w l) x e = grind (arith, nat_tests)
holding_works _ x e = absurd (grind (arith, e))

copying_works : (p : Pending) (x y : ℕ) → phase_of p ≡ Phase.Copying → kept_of p ≡ Some x → works_on x y (stage_of p) ≡ true
copying_works (Pending.Copying f w l) x y e k = grind (arith, nat_tests, k)
copying_works _ x y e k = absurd (grind (arith, e))

purging_works : (p : Pending) (x y : ℕ) → purges (phase_of p) ≡ true → kept_of p ≡ Some x → works_on x y (stage_of p) ≡ true
purging_works (Pending.Advancing l v w) x y e k = grind (arith, nat_tests, k)
purging_works (Pending.Clearing l v w) x y e k = grind (arith, nat_tests, k)
purging_works _ x y e k = absurd (grind (arith, e))

borrower_borrows : (p : Pending) → has_memory_slot (phase_of p) ≡ true → borrows (stage_of p) ≡ true
borrower_borrows (Pending.Fetching f d l) e = refl
borrower_borrows (Pending.WritingBack l) e = refl
borrower_borrows _ e = absurd (grind (arith, e))

rolling_stage_is : (p : Pending) → phase_of p ≡ Phase.Rolling → is_rolling_out (stage_of p) ≡ true
rolling_stage_is (Pending.Rolling t q) e = refl
rolling_stage_is _ e = absurd (grind (arith, e))

purged_kind : (k : Kind) → is_purged k ≡ true → k ≡ Kind.Purged
purged_kind Kind.Purged h = refl
purged_kind _ h = absurd (grind (arith, h))

right_of : (a b : Bool) → a ≡ false → (a || b) ≡ true → b ≡ true
right_of true b e h = absurd (cc)
right_of false b e h = h

left_false : (a b : Bool) → (a || b) ≡ false → a ≡ false
left_false true b h = absurd (cc)
left_false false b h = refl

right_false : (a b : Bool) → (a || b) ≡ false → b ≡ false
right_false true b h = absurd (cc)
right_false false b h = h

both_true : (a b : Bool) → a ≡ true → b ≡ true → (a && b) ≡ true
both_true true b p q = q
both_true false b p q = absurd (cc)

some_same : (x y : ℕ) → Some x ≡ Some y → x ≡ y
some_same x y e = grind (arith, e)

not_false : (b : Bool) → not b ≡ false → b ≡ true
not_false true h = refl
not_false false h = absurd (cc)

right_too : (a b : Bool) → b ≡ true → (a || b) ≡ true
right_too true b h = refl
right_too false b h = h

left_too : (a b : Bool) → a ≡ true → (a || b) ≡ true
left_too true b h = refl
left_too false b h = absurd (cc)

names_at : (i : ℕ) (l : Option ℕ) → l ≡ Some i → names i l ≡ true
names_at i None e = absurd (cc)
names_at i (Some x) e = grind (arith, nat_tests)

-- who works on an entry, has memory's slot, or stands in front on its way, isn't Idle
worker_busy : (x y : ℕ) (p : Pending) → works_on x y (stage_of p) ≡ true → p ≢ Pending.Idle
worker_busy x y p h e = not_both (works_on x y (stage_of Pending.Idle)) (subst (λ (q : Pending). works_on x y (stage_of q) ≡ true) e h) refl

borrower_busy : (p : Pending) → borrows (stage_of p) ≡ true → p ≢ Pending.Idle
borrower_busy p h e = not_both (borrows (stage_of Pending.Idle)) (subst (λ (q : Pending). borrows (stage_of q) ≡ true) e h) refl

front_busy : (i : ℕ) (t : Tag) (p : Pending) → suits (phase_of p) t.kind ≡ true → is_in_front i t (stage_of p) ≡ true → p ≢ Pending.Idle
front_busy i t Pending.Idle u h e = grind (arith, u, h)
front_busy i t _ u h e = grind (arith, e)

-- what an entry that is neither held nor Purged may be while its node is Idle
idle_settled : (k : Kind) → suits Phase.Idle k ≡ true → is_purged k ≡ false → k ≢ Kind.Invalid → can_be_told k ≡ true
idle_settled k u p n = grind (arith, u, p, n)

idle_valid : (k : Kind) → suits Phase.Idle k ≡ true → is_purged k ≡ false → is_body k ≡ true → k ≡ Kind.Valid
idle_valid k u p b = grind (arith, u, p, b)

idle_front : (k : Kind) → suits Phase.Idle k ≡ true → is_front k ≡ true → (k ≡ Kind.Fresh) ⊎ (k ≡ Kind.Dirty)
idle_front Kind.Fresh u f = inl refl
idle_front Kind.Dirty u f = inr refl
idle_front _ u f = absurd (grind (arith, u, f))

attached_fresh : (u c : Bool) (t : Tag) → u ≡ false → c ≡ true → is_found is_fresh t ≡ true → attaches u c t ≡ true
attached_fresh true c t a b h = absurd (cc)
attached_fresh false true t a b h = h
attached_fresh false false t a b h = absurd (cc)

attached_dirty : (u c : Bool) (t : Tag) → u ≡ true → c ≡ false → is_found is_dirty t ≡ true → attaches u c t ≡ true
attached_dirty false c t a b h = absurd (cc)
attached_dirty true false t a b h = h
attached_dirty true true t a b h = absurd (cc)

attached_in : (m : MemState) (u c : Bool) (t : Tag) → tag_well_formed t ≡ true → t.held ≡ false → (t.kind ≡ Kind.Fresh) ⊎ (t.kind ≡ Kind.Dirty) → m ≢ MemState.Home
    → (m ≡ MemState.Fresh → (u ≡ false) × (c ≡ true) × (t.kind ≢ Kind.Dirty)) → (m ≡ MemState.Gone → (u ≡ true) × (c ≡ false) × (t.kind ≢ Kind.Fresh)) → attaches u c t ≡ true
attached_in MemState.Home u c t w h k n x y = absurd (n refl)
attached_in MemState.Fresh u c t w h k n x y = let a = x refl in attached_fresh u c t a.0 a.1 (found is_fresh t (⊎_elim (λ e. ap is_fresh e) (λ e. absurd (a.2 e)) k) h w)
attached_in MemState.Gone u c t w h k n x y = let a = y refl in attached_dirty u c t a.0 a.1 (found is_dirty t (⊎_elim (λ e. absurd (a.2 e)) (λ e. ap is_dirty e) k) h w)

copy_some : (f : Option ℕ) (u : Bool) (c : Option Line) → has_copy (Pending.InQueue f u c) ≡ is_some c
copy_some f u None = refl
copy_some f u (Some l) = refl

module _ (n : ℕ) (s : State) (g : Witness) (o : Law (shape s) g) (formed : HasWellFormedWords s) (beyond : (i : ℕ) → n ≤ i → s.steps i ≡ Pending.Idle) where
  pub below : (y : ℕ) → s.steps y ≢ Pending.Idle → y < n
  below y h = ⊎_elim (λ l. l) (λ l. absurd (h (beyond y l))) (cases_lt y n)

  purger : (x : ℕ) → (s.tags x).kind ≡ Kind.Purged → (y : ℕ) × (works_on x y (stage_of (s.steps y)) ≡ true)
  purger x k =
      ⊎_elim
      (λ l.
      let e = o.fronts.purged x l k in
      let f = o.fronts.purged_next x l k in
      let kept : kept_of (s.steps g.last_front) ≡ Some x = sym (o.own.as_kept g.last_front (rw e refl)) ∙ f in
      (g.last_front, purging_works (s.steps g.last_front) x g.last_front (rw e refl) kept))
      (λ l.
      let z : g.rank x ≡ 0 = omega (arith, l) in
      let e = o.outside.cleared x z k in
      (g.clearer x, purging_works (s.steps (g.clearer x)) x (g.clearer x) (rw e refl) (o.outside.cleared_by x z k)))
      (cases_lt 0 (g.rank x))

  -- who has a tag to himself
  worker : (x : ℕ) → is_taken (s.tags x) ≡ true → (y : ℕ) × (works_on x y (stage_of (s.steps y)) ≡ true)
  worker x t =
      ⊎_elim
      (λ h. ⊎_elim
      (λ e. (x, holding_works (s.steps x) x e))
      (λ e. (g.copier x, copying_works (s.steps (g.copier x)) x (g.copier x) (o.slots.held_by x h e) (o.slots.held_for x h e)))
      (holding_or_not (phase_of (s.steps x))))
      (λ h. purger x (purged_kind (s.tags x).kind (right_of (s.tags x).held (is_purged (s.tags x).kind) h t)))
      (cases_Bool (s.tags x).held)

  abbrev IsFound : Obstacle → Type 0
  IsFound b = (y : ℕ) × (first_due s n b ≡ Some y) × (s.steps y ≢ Pending.Idle) × IsDue s b y

  find : (b : Obstacle) → ((z : ℕ) → IsDue s b z → s.steps z ≢ Pending.Idle) → (y : ℕ) → IsDue s b y → IsFound b
  find b busy y h =
      let r = first_some (λ z. is_due b z (s.tags z) (stage_of (s.steps z))) n y (below y (busy y h)) h in
      let d = first_holds (λ z. is_due b z (s.tags z) (stage_of (s.steps z))) n r.0 r.1 in
      (r.0, r.1, busy r.0 d, d)

  due : (x : ℕ) (t : Bool) → is_taken (s.tags x) ≡ t → (t ≡ false → s.steps x ≢ Pending.Idle) → (y : ℕ) × (due_at s n x ≡ Some y) × (s.steps y ≢ Pending.Idle) × IsDueAt s x y
  due x true e h =
      let w = worker x e in
      let r = find (Obstacle.Taken x) (λ z d. worker_busy x z (s.steps z) d) w.0 w.1 in
      (r.0, ap (λ (b : Bool). cond b (first_due s n (Obstacle.Taken x)) (Some x)) e ∙ r.1, r.2, inl (e, r.3))
  due x false e h = (x, ap (λ (b : Bool). cond b (first_due s n (Obstacle.Taken x)) (Some x)) e, h refl, inr (e, refl))

  pub untaken : (x : ℕ) → is_taken (s.tags x) ≡ false → ((s.tags x).held ≡ false) × (is_purged (s.tags x).kind ≡ false)
  untaken x e = (left_false (s.tags x).held (is_purged (s.tags x).kind) e, right_false (s.tags x).held (is_purged (s.tags x).kind) e)

  suits_idle : (x : ℕ) → s.steps x ≡ Pending.Idle → suits Phase.Idle (s.tags x).kind ≡ true
  suits_idle x e = subst (λ (p : Pending). suits (phase_of p) (s.tags x).kind ≡ true) e (o.own.suited x)

  -- what stands behind one that is no front above the last is in the body
  pub next_body : (i x : ℕ) → 0 < g.rank i → g.rank i ≤ g.rank g.last_front → (s.tags i).forw ≡ Some x → is_body (s.tags x).kind ≡ true
  next_body i x p t f = let c0 = o.order.next_in i x p f in let c1 = o.order.next_below i x p f in o.fronts.body x c0 (omega (arith, c1, t))

  -- who is Purging or Leaving is the last front
  pub last_in : (i : ℕ) → (phase_of (s.steps i) ≡ Phase.Purging) ⊎ (phase_of (s.steps i) ≡ Phase.Leaving) → (0 < g.rank i) × (g.rank i ≤ g.rank g.last_front)
  last_in i e =
      let c0 = o.outside.may_be i in
      let c1 = o.fronts.queue i in
      let o : ℕ = 0 in (
        ⊎_elim (λ a. grind (arith, c0, a)) (λ a. grind (arith, c0, a)) e,
        ⊎_elim (λ a. grind (arith, nat_tests, c1, a)) (λ a. grind (arith, nat_tests, c1, a)) e,
      )

  -- an Idle entry behind one that is Purging is purged
  idle_purged : (i x : ℕ) → phase_of (s.steps i) ≡ Phase.Purging → (s.tags i).forw ≡ Some x → is_taken (s.tags x) ≡ false → s.steps x ≡ Pending.Idle → purges_or_adopts i (s.tags x) ≡ true
  idle_purged i x e f t d =
      let l = last_in i (inl e) in
      let u = untaken x t in
      purges_at s formed i x (idle_valid (s.tags x).kind (suits_idle x d) u.1 (next_body i x l.0 l.1 f)) u.0

  pub neighbour_is : (i x : ℕ) → 0 < g.rank i → (s.tags i).forw ≡ Some x → is_body (s.tags x).kind ≡ true → (s.tags i).kind ≢ Kind.Roll → (s.tags i).kind ≢ Kind.Purging → (s.tags x).back ≡ Some i
  neighbour_is i x p f b r q =
      let c = path_of_law s g o in
      let a = stands s.memory.forw (forward s) g.rank o.order c.0 c.1 in
      (back_links_of_law s g o c.0 a).neighbour i x (a.holds i p, f) b r q

  -- an Idle entry behind one that is Leaving is promoted
  idle_promoted : (i x : ℕ) → phase_of (s.steps i) ≡ Phase.Leaving → (s.tags i).forw ≡ Some x → is_taken (s.tags x) ≡ false → s.steps x ≡ Pending.Idle → is_next i (s.tags x) ≡ true
  idle_promoted i x e f t d =
      let l = last_in i (inr e) in
      let u = untaken x t in
      let b = next_body i x l.0 l.1 f in
      let c = o.own.suited i in
      next_at s formed i x (idle_valid (s.tags x).kind (suits_idle x d) u.1 b) u.0
      (neighbour_is i x l.0 f b (λ k. let o : ℕ = 0 in grind (arith, c, e, k)) (λ k. let o : ℕ = 0 in grind (arith, c, e, k)))

  pub untold_back : (i x : ℕ) (q : Option (Option ℕ × ℕ)) → s.steps i ≡ Pending.Rolling false q → (s.tags i).forw ≡ Some x → (s.tags x).back ≡ Some i
  untold_back i x q e f =
      let c = path_of_law s g o in
      (facts_at s g o c.0 c.1).untold_successor i x (subst (λ (p : Pending). IsUntold p) (sym e) refl) f

  -- an Idle entry behind one that is to tell it is told
  idle_told : (i x : ℕ) (q : Option (Option ℕ × ℕ)) → s.steps i ≡ Pending.Rolling false q → (s.tags i).forw ≡ Some x → is_taken (s.tags x) ≡ false → s.steps x ≡ Pending.Idle → is_next i (s.tags x) ≡ true
  idle_told i x q e f t d =
      let u = untaken x t in
      let p = rolling_in s g o i (ap phase_of e) in
      let l = rolling_body s g o i (ap phase_of e) in
      next_at s formed i x (idle_valid (s.tags x).kind (suits_idle x d) u.1 (next_body i x p (omega (arith, l)) f)) u.0 (untold_back i x q e f)

  -- an Idle entry behind one in the queue is attached
  pub queued_in : (i x : ℕ) → phase_of (s.steps i) ≡ Phase.InQueue → (s.tags i).forw ≡ Some x → (0 < g.rank i) × (g.rank g.last_front < g.rank i)
  queued_in i x e f =
      let c0 = o.outside.may_be i in
      let c1 = o.own.suited i in
      let p : 0 < g.rank i = let o : ℕ = 0 in grind (arith, c0, e) in
      let c2 = o.fronts.body i p in
      let c3 = o.order.apart i g.last_front p in
      let c4 = o.fronts.attached x in
      let o : ℕ = 0 in
      (p, grind (arith, nat_tests, c1, c2, c3, c4, p, e, f))

  idle_last : (i x : ℕ) → 0 < g.rank i → g.rank g.last_front < g.rank i → (s.tags i).forw ≡ Some x → s.steps x ≡ Pending.Idle → (x ≡ g.last_front) × (is_front (s.tags x).kind ≡ true) × (0 < g.rank x)
  idle_last i x p l f d =
      let c0 = o.order.next_in i x p f in
      let c1 = o.order.next_first i x g.last_front p f l in
      let c2 = o.fronts.queue x in
      let c3 = o.order.apart x g.last_front c0 in
      let c4 : phase_of (s.steps x) ≡ Phase.Idle = ap phase_of d in
      let front = o.fronts.front x c0 c1 in
      let o : ℕ = 0 in
      (grind (arith, nat_tests, c1, c2, c3, c4), front, c0)

  idle_attached : (i x : ℕ) (f : Option ℕ) (u : Bool) (c : Option Line) → s.steps i ≡ Pending.InQueue f u c → (s.tags i).forw ≡ Some x → is_taken (s.tags x) ≡ false → s.steps x ≡ Pending.Idle → attaches u (is_some c) (s.tags x) ≡ true
  idle_attached i x f u c e h t d =
      let phase = ap phase_of e in
      let q = queued_in i x phase h in
      let z = idle_last i x q.0 q.1 h d in
      let copied : has_copy (s.steps i) ≡ is_some c = ap has_copy e ∙ copy_some f u c in
      let dirty : s.memory.state ≡ MemState.Gone → (s.tags x).kind ≢ Kind.Fresh =
      λ m k. let c0 = o.mode.gone m in let c1 : (s.tags g.last_front).kind ≡ Kind.Fresh = subst (λ (j : ℕ). (s.tags j).kind ≡ Kind.Fresh) z.0 k in let o : ℕ = 0 in grind (arith, c0, c1) in
      attached_in s.memory.state u (is_some c) (s.tags x) (formed.tags x) (untaken x t).0 (idle_front (s.tags x).kind (suits_idle x d) z.1)
      (λ m. let a = o.order.empty i (o.mode.home m) in let b = q.0 in omega (arith, a, b))
      (λ m. (sym (ap flag_of e) ∙ o.mode.not_flagged i m q.0 (rw phase refl), sym copied ∙ o.mode.has_copy i m q.0 phase, o.mode.not_dirty x m z.2))
      (λ m. (sym (ap flag_of e) ∙ o.mode.gone_flag i m q.1, sym copied ∙ o.mode.gone_copy i m q.1 phase, dirty m))

  -- who stands right in front of node i in Roll
  front_of : (i : ℕ) → phase_of (s.steps i) ≡ Phase.Rolling → (p : ℕ) × (0 < g.rank p) × ((s.tags p).forw ≡ Some i)
  front_of i e = let z = rolling_before s g o i e in (z.0, z.1, z.3)

  -- where nobody there is on its way, the back link is the entry in front
  pub back_is_front : (i : ℕ) → phase_of (s.steps i) ≡ Phase.Rolling → ((z : ℕ) → IsDue s (Obstacle.Front i) z → ⊥) → (p : ℕ) × (0 < g.rank p) × ((s.tags p).forw ≡ Some i) × ((s.tags i).back ≡ Some p) × ((s.tags p).kind ≢ Kind.Roll) × ((s.tags p).kind ≢ Kind.Purging)
  back_is_front i e none =
      let z = front_of i e in
      let named = names_at i (s.tags z.0).forw z.2 in
      let not_roll : (s.tags z.0).kind ≢ Kind.Roll =
      λ k. none z.0 (both_true (names i (s.tags z.0).forw) (is_purging (s.tags z.0).kind || is_rolling_out (stage_of (s.steps z.0))) named
      (right_too (is_purging (s.tags z.0).kind) (is_rolling_out (stage_of (s.steps z.0))) (rolling_stage_is (s.steps z.0) (roll_rolling s g o z.0 z.1 k)))) in
      let not_purging : (s.tags z.0).kind ≢ Kind.Purging =
      λ k. none z.0 (both_true (names i (s.tags z.0).forw) (is_purging (s.tags z.0).kind || is_rolling_out (stage_of (s.steps z.0))) named
      (left_too (is_purging (s.tags z.0).kind) (is_rolling_out (stage_of (s.steps z.0))) (ap is_purging k))) in
      (z.0, z.1, z.2, neighbour_is z.0 i z.1 z.2 (ap is_body (rolling_kind s g o i e)) not_roll not_purging, not_roll, not_purging)

  -- an Idle entry there can be told
  idle_before : (i b : ℕ) → phase_of (s.steps i) ≡ Phase.Rolling → ((z : ℕ) → IsDue s (Obstacle.Front i) z → ⊥) → (s.tags i).back ≡ Some b → is_taken (s.tags b) ≡ false → s.steps b ≡ Pending.Idle → is_before i (s.tags b) ≡ true
  idle_before i b e none h t d =
      let z = back_is_front i e none in
      let same : z.0 ≡ b = some_same z.0 b (sym z.3 ∙ h) in
      let u = untaken b t in
      before_at s formed i b (idle_settled (s.tags b).kind (suits_idle b d) u.1 (subst (λ (p : ℕ). (s.tags p).kind ≢ Kind.Invalid) same (o.outside.kinds z.0 z.1))) u.0 (subst (λ (p : ℕ). (s.tags p).forw ≡ Some i) same z.2)

  -- a node in a step waits for this one
  abbrev WaitsFor : ℕ → Stage → Option ℕ → Option ℕ → Type 0
  WaitsFor i p f b = (y : ℕ) × (sought s n i p f b ≡ Some y) × (s.steps y ≢ Pending.Idle) × WaitsIn s i p f b y

  front_waits : (i : ℕ) (p : Stage) (f : Option ℕ) (b : ℕ) → phase_of (s.steps i) ≡ Phase.Rolling → (s.tags i).back ≡ Some b → is_before i (s.tags b) ≡ false
      → (o1 : Option ℕ) → first_due s n (Obstacle.Front i) ≡ o1 → (y : ℕ) × (option_or (first_due s n (Obstacle.Front i)) (due_at_link s n (Some b)) ≡ Some y) × (s.steps y ≢ Pending.Idle) × IsDueInFront s i (Some b) y
  front_waits i p f b e h t (Some y) r =
      let d = first_holds (λ z. is_due (Obstacle.Front i) z (s.tags z) (stage_of (s.steps z))) n y r in
      (y, ap (λ (x : Option ℕ). option_or x (due_at_link s n (Some b))) r, front_busy i (s.tags y) (s.steps y) (o.own.suited y) d, inl d)
  front_waits i p f b e h t None r =
      let none : (z : ℕ) → IsDue s (Obstacle.Front i) z → ⊥ =
      λ z d. first_none (λ y. is_due (Obstacle.Front i) y (s.tags y) (stage_of (s.steps y))) n z r (below z (front_busy i (s.tags z) (s.steps z) (o.own.suited z) d)) d in
      let w = due b (is_taken (s.tags b)) refl (λ u d. not_both (is_before i (s.tags b)) (idle_before i b e none h u d) t) in
      (w.0, ap (λ (x : Option ℕ). option_or x (due_at_link s n (Some b))) r ∙ w.1, w.2, inr (none, w.3))

  rolling_waits : (i : ℕ) (u : Bool) (q : Option (Option ℕ × ℕ)) (f b : Option ℕ) → s.steps i ≡ Pending.Rolling u q → (s.tags i).forw ≡ f → (s.tags i).back ≡ b → goes_in i s.memory (Stage.Rolling u q) (tag_at s f) (tag_at s b) ≡ false → WaitsFor i (Stage.Rolling u q) f b
  rolling_waits i u q f None e ef eb h = absurd (o.own.body_back i (ap is_body (rolling_kind s g o i (ap phase_of e))) eb)
  rolling_waits i false q (Some x) (Some b) e ef eb h = due x (is_taken (s.tags x)) refl (λ t d. not_both (is_next i (s.tags x)) (idle_told i x q e ef t d) h)
  rolling_waits i false q None (Some b) e ef eb h = front_waits i (Stage.Rolling false q) None b (ap phase_of e) eb h (first_due s n (Obstacle.Front i)) refl
  rolling_waits i true q f (Some b) e ef eb h = front_waits i (Stage.Rolling true q) f b (ap phase_of e) eb h (first_due s n (Obstacle.Front i)) refl

  behind_waits : (i : ℕ) (p : Pending) (f b : Option ℕ) → s.steps i ≡ p → p ≢ Pending.Idle → (s.tags i).forw ≡ f → (s.tags i).back ≡ b → goes_in i s.memory (stage_of p) (tag_at s f) (tag_at s b) ≡ false → WaitsFor i (stage_of p) f b
  behind_waits i Pending.Idle f b e w ef eb h = absurd (w refl)
  behind_waits i (Pending.Queueing k) f b e w ef eb h =
      let out = o.slots.borrower_has (not_false s.memory.lent h) in
      find Obstacle.Memory (λ z d. borrower_busy (s.steps z) d) g.borrower (borrower_borrows (s.steps g.borrower) out)
  behind_waits i (Pending.InQueue k u c) None b e w ef eb h = absurd (cc)
  behind_waits i (Pending.InQueue k u c) (Some x) b e w ef eb h = due x (is_taken (s.tags x)) refl (λ t d. not_both (attaches u (is_some c) (s.tags x)) (idle_attached i x k u c e ef t d) h)
  behind_waits i (Pending.Purging l q) None b e w ef eb h = absurd (cc)
  behind_waits i (Pending.Purging l q) (Some x) b e w ef eb h = due x (is_taken (s.tags x)) refl (λ t d. not_both (purges_or_adopts i (s.tags x)) (idle_purged i x (ap phase_of e) ef t d) h)
  behind_waits i (Pending.Leaving u l q) None b e w ef eb h = absurd (cc)
  behind_waits i (Pending.Leaving u l q) (Some x) b e w ef eb h = due x (is_taken (s.tags x)) refl (λ t d. not_both (is_next i (s.tags x)) (idle_promoted i x (ap phase_of e) ef t d) (right_false (not (names i s.memory.forw)) (is_next i (s.tags x)) h))
  behind_waits i (Pending.Rolling u q) f b e w ef eb h = rolling_waits i u q f b e ef eb h
  behind_waits i _ f b e w ef eb h = absurd (cc)

  -- who isn't Idle and doesn't go on waits for somebody
  pub waits_for : (i : ℕ) → s.steps i ≢ Pending.Idle → goes s i ≡ false → WaitsFor i (stage_of (s.steps i)) (s.tags i).forw (s.tags i).back
  waits_for i w h = behind_waits i (s.steps i) (s.tags i).forw (s.tags i).back refl w refl refl h
