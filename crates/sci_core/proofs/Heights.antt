-- Nobody waits in a circle: who waits for the entry behind it waits for one that does so too, nearer the tail; who waits in front, for one nearer the head.
use Rattle.std.proofs.Common.{◌≡◌, ◌≢◌, ◌⊎◌, ℕ, ◌<◌, ◌≤◌, ◌-◌, Bool, true, false, ◌&&◌, ◌||◌, not, Option, Some, None, refl, sym, ap, subst, inl, inr, ⊎_elim, ◌∙◌, arith}
use Rattle.std.proofs.lemmas.Bool.Decides.{nat_tests}
use Rattle.std.proofs.lemmas.Bool.{cases_eq, cases_Bool}
use Rattle.sci_words.specs.declared.tags.Kind.{Kind}
use Rattle.sci_core.specs.declared.pending.Pending.{Pending}
use Rattle.sci_core.specs.declared.stages.Stage.{Stage}
use Rattle.sci_core.specs.declared.waiting.Obstacle.{Obstacle}
use Rattle.sci_core.specs.State.{State}
use Rattle.sci_core.specs.Shape.{Phase, shape, phase_of, flag_of}
use Rattle.sci_core.specs.Law.{Law, Witness, Below, suits, is_body, has_attached}
use Rattle.sci_core.specs.Found.{names, is_settled_body, is_rolling, can_be_told, is_found}
use Rattle.sci_core.specs.Stage.{stage_of}
use Rattle.sci_core.specs.WellFormed.{HasWellFormedWords}
use Rattle.sci_core.specs.Progress.{tag_at, goes_in, goes}
use Rattle.sci_core.specs.Waiting.{is_purged, is_purging, is_rolling_out, borrows, is_taken, works_on, is_in_front, IsDue, IsDueAt, IsDueInFront, WaitsIn, Waits}
use Rattle.sci_core.proofs.Progress.{never_waits, rolling_in, rolling_kind, rolling_body}
use Rattle.sci_core.proofs.GoingOn.{found, always, tells_back_at, adopting, adopts_at, before_at}
use Rattle.sci_core.proofs.Exchanging.{moves_of}
use Rattle.sci_core.proofs.Awaited.{untaken, last_in, neighbour_is, untold_back, queued_in, back_is_front}
use Rattle.sci_core.proofs.ReadBack.PendingStep.{not_held, only_purging}

not_both : (b : Bool) → b ≡ true → b ≡ false → ⊥
not_both b h k = cc

links_same : (a b : Option ℕ) → (a ≡ b) ⊎ (a ≢ b)
links_same None None = inl refl
links_same None (Some y) = inr (λ e. absurd (cc))
links_same (Some x) None = inr (λ e. absurd (cc))
links_same (Some x) (Some y) = ⊎_elim (λ e. inl (ap (λ (z : ℕ). Some z) e)) (λ n. inr (λ e. n (grind (arith, e)))) (cases_eq x y)

some_same : (x y : ℕ) → Some x ≡ Some y → x ≡ y
some_same x y e = grind (arith, e)

names_this : (i : ℕ) (l : Option ℕ) → names i l ≡ true → l ≡ Some i
names_this i None e = absurd (cc)
names_this i (Some x) e = grind (arith, nat_tests)

first_true : (a b : Bool) → (a && b) ≡ true → a ≡ true
first_true true b h = refl
first_true false b h = absurd (cc)

second_true : (a b : Bool) → (a && b) ≡ true → b ≡ true
second_true true b h = h
second_true false b h = absurd (cc)

right_false : (a b : Bool) → (a || b) ≡ false → b ≡ false
right_false true b h = absurd (cc)
right_false false b h = h

right_of : (a b : Bool) → a ≡ false → (a || b) ≡ true → b ≡ true
right_of true b e h = absurd (cc)
right_of false b e h = h

named : (a b : Bool) → a ≡ true → (a && not b) ≡ false → b ≡ true
named true true e h = refl
named true false e h = absurd (cc)
named false b e h = absurd (cc)

only_leaving : (k : Kind) → suits Phase.Leaving k ≡ true → k ≡ Kind.Leaving
only_leaving k h = grind (arith, h)

purging_kind : (k : Kind) → is_purging k ≡ true → k ≡ Kind.Purging
purging_kind Kind.Purging h = refl
purging_kind _ h = absurd (grind (arith, h))

worker_goes : (x y : ℕ) (p : Pending) → works_on x y (stage_of p) ≡ true → never_waits (phase_of p) ≡ true
worker_goes x y (Pending.Holding w l) h = refl
worker_goes x y (Pending.Copying f w l) h = refl
worker_goes x y (Pending.Advancing l v w) h = refl
worker_goes x y (Pending.Clearing l v w) h = refl
worker_goes x y _ h = absurd (grind (arith, h))

borrower_goes : (p : Pending) → borrows (stage_of p) ≡ true → never_waits (phase_of p) ≡ true
borrower_goes (Pending.Fetching f d l) h = refl
borrower_goes (Pending.WritingBack l) h = refl
borrower_goes _ h = absurd (grind (arith, h))

rolling_out : (p : Pending) → is_rolling_out (stage_of p) ≡ true → phase_of p ≡ Phase.Rolling
rolling_out (Pending.Rolling t q) h = refl
rolling_out _ h = absurd (grind (arith, h))

-- it waits for the entry in front of it
abbrev is_up : Stage → Option ℕ → Bool
is_up (Stage.Rolling false seen) (Some x) = false
is_up (Stage.Rolling told seen) f = true
is_up p f = false

up_in : (p : Pending) (f : Option ℕ) → is_up (stage_of p) f ≡ true → (phase_of p ≡ Phase.Rolling) × ((flag_of p ≡ true) ⊎ (f ≡ None))
up_in (Pending.Rolling true q) f h = (refl, inl refl)
up_in (Pending.Rolling false q) None h = (refl, inr refl)
up_in (Pending.Rolling false q) (Some x) h = absurd (cc)
up_in _ f h = absurd (grind (arith, h))

down_in : (p : Pending) (f : Option ℕ) → phase_of p ≡ Phase.Rolling → is_up (stage_of p) f ≡ false → (q : Option (Option ℕ × ℕ)) × (p ≡ Pending.Rolling false q)
down_in (Pending.Rolling true q) f e h = absurd (cc)
down_in (Pending.Rolling false q) f e h = (q, refl)
down_in _ f e h = absurd (grind (arith, e))

attached_runs : (p : Phase) → has_attached p ≡ true → never_waits p ≡ true
attached_runs Phase.Copying h = refl
attached_runs Phase.Ready h = refl
attached_runs _ h = absurd (grind (arith, h))

convert_runs : (p : Phase) → suits p Kind.Convert ≡ true → never_waits p ≡ true
convert_runs Phase.Converting u = refl
convert_runs _ u = absurd (grind (arith, u))

-- an entry in front of one in the body that can't be told goes on
waits_not : (p : Phase) (k : Kind) → suits p k ≡ true → can_be_told k ≡ false → is_purged k ≡ false → k ≢ Kind.Invalid → (k ≡ Kind.Queued → has_attached p ≡ true) → never_waits p ≡ true
waits_not p Kind.Queued u t q i a = attached_runs p (a refl)
waits_not p Kind.Convert u t q i a = convert_runs p u
waits_not p Kind.Invalid u t q i a = absurd (i refl)
waits_not p Kind.Purged u t q i a = absurd (cc)
waits_not p _ u t q i a = absurd (cc)

module _ (n : ℕ) (s : State) (g : Witness) (o : Law (shape s) g) (formed : HasWellFormedWords s) (beyond : (i : ℕ) → n ≤ i → s.steps i ≡ Pending.Idle) where
  abbrev up : ℕ → Bool
  up i = is_up (stage_of (s.steps i)) (s.tags i).forw

  runs : (i : ℕ) → never_waits (phase_of (s.steps i)) ≡ true → goes s i ≡ true
  runs i h = always i s.memory (s.steps i) (tag_at s (s.tags i).forw) (tag_at s (s.tags i).back) h

  -- one that waits in front, whose back link can be told and has it behind it, goes on
  tells : (x i : ℕ) → up x ≡ true → (s.tags x).back ≡ Some i → can_be_told (s.tags i).kind ≡ true → (s.tags i).held ≡ false → (s.tags i).forw ≡ Some x → goes s x ≡ true
  tells x i h b k u f = let r = up_in (s.steps x) (s.tags x).forw h in tells_back_at s formed x i (s.tags x).forw (flag_of (s.steps x)) r.0 refl refl r.1 b (before_at s formed x i k u f)

  up_kind : (x : ℕ) → up x ≡ true → (s.tags x).kind ≡ Kind.Roll
  up_kind x h = rolling_kind s g o x (up_in (s.steps x) (s.tags x).forw h).0

  -- whom node i waits for waits in the same direction, further on
  abbrev Falls : Bool → ℕ → ℕ → Type 0
  Falls u i y = ((u ≡ false) × (up y ≡ false) × (g.rank y < g.rank i)) ⊎ ((u ≡ true) × (up y ≡ true) × (g.rank i < g.rank y) × (g.rank y < g.rank g.last_front))

  at_entry : (u : Bool) (i x y : ℕ) → u ≡ false → 0 < g.rank i → (s.tags i).forw ≡ Some x → (is_taken (s.tags x) ≡ false → up x ≡ true → goes s x ≡ true) → goes s y ≡ false → IsDueAt s x y → Falls u i y
  at_entry u i x y e p f t h d =
      ⊎_elim
      (λ a. absurd (not_both (goes s y) (runs y (worker_goes x y (s.steps y) a.1)) h))
      (λ a.
      let hx : goes s x ≡ false = subst (λ (j : ℕ). goes s j ≡ false) a.1 h in
      let down : up x ≡ false = ⊎_elim (λ v. absurd (not_both (goes s x) (t a.0 v) hx)) (λ v. v) (cases_Bool (up x)) in
      inl (e, subst (λ (j : ℕ). up j ≡ false) (sym a.1) down, subst (λ (j : ℕ). g.rank j < g.rank i) (sym a.1) (o.order.next_below i x p f)))
      d

  queue_top : (i x : ℕ) → phase_of (s.steps i) ≡ Phase.InQueue → (s.tags i).forw ≡ Some x → (s.tags x).kind ≢ Kind.Roll
  queue_top i x e f k =
      let q = queued_in n s g o formed beyond i x e f in
      let c0 = o.order.next_in i x q.0 f in
      let c1 = o.order.next_first i x g.last_front q.0 f q.1 in
      let c2 = o.fronts.front x c0 c1 in
      let o : ℕ = 0 in
      grind (arith, c2, k)

  purged_tells : (i x : ℕ) → phase_of (s.steps i) ≡ Phase.Purging → (s.tags i).kind ≡ Kind.Purging → (s.tags i).forw ≡ Some x → (is_found is_rolling (s.tags x) && not (names i (s.tags x).back)) ≡ false → is_taken (s.tags x) ≡ false → up x ≡ true → goes s x ≡ true
  purged_tells i x e k f a t v =
      let u = untaken n s g o formed beyond x t in
      let b = names_this i (s.tags x).back (named (is_found is_rolling (s.tags x)) (names i (s.tags x).back) (found is_rolling (s.tags x) (ap is_rolling (up_kind x v)) u.0 (formed.tags x)) a) in
      tells x i v b (ap can_be_told k) (not_held s g o i Kind.Purging k refl) f

  left_tells : (i x : ℕ) → phase_of (s.steps i) ≡ Phase.Leaving → (s.tags i).kind ≡ Kind.Leaving → (s.tags i).forw ≡ Some x → up x ≡ true → goes s x ≡ true
  left_tells i x e k f v =
      let l = last_in n s g o formed beyond i (inr e) in
      let b = neighbour_is n s g o formed beyond i x l.0 f (ap is_body (up_kind x v)) (λ r. let o : ℕ = 0 in grind (arith, k, r)) (λ r. let o : ℕ = 0 in grind (arith, k, r)) in
      tells x i v b (ap can_be_told k) (not_held s g o i Kind.Leaving k refl) f

  kind_in : (i : ℕ) (p : Phase) (k : Kind) → phase_of (s.steps i) ≡ p → ((h : Kind) → suits p h ≡ true → h ≡ k) → (s.tags i).kind ≡ k
  kind_in i p k e r = r (s.tags i).kind (subst (λ (q : Phase). suits q (s.tags i).kind ≡ true) e (o.own.suited i))

  -- a front right before a body entry has attached it
  queued_attached : (b i : ℕ) → 0 < g.rank b → (s.tags b).forw ≡ Some i → g.rank i < g.rank g.last_front → (s.tags b).kind ≡ Kind.Queued → has_attached (phase_of (s.steps b)) ≡ true
  queued_attached b i p f l k =
      let c0 = o.order.next_first b i g.last_front p f in
      let c1 = o.fronts.body b p in
      let c2 = o.order.apart b g.last_front p in
      let c3 = o.fronts.attached i in
      let o : ℕ = 0 in
      grind (arith, nat_tests, c0, c1, c2, c3, p, f, l, k)

  -- the entry in front of node i that is on its way
  front_falls : (i y : ℕ) → up i ≡ true → goes s i ≡ false → goes s y ≡ false → is_in_front i (s.tags y) (stage_of (s.steps y)) ≡ true → Falls true i y
  front_falls i y v hi hy d =
      let f = names_this i (s.tags y).forw (first_true (names i (s.tags y).forw) (is_purging (s.tags y).kind || is_rolling_out (stage_of (s.steps y))) d) in
      let way = second_true (names i (s.tags y).forw) (is_purging (s.tags y).kind || is_rolling_out (stage_of (s.steps y))) d in
      let roll = up_kind i v in
      ⊎_elim
      (λ a.
      let k = purging_kind (s.tags y).kind a in
      absurd (⊎_elim
      (λ b. not_both (goes s i) (tells i y v b (ap can_be_told k) (not_held s g o y Kind.Purging k refl) f) hi)
      (λ b. not_both (goes s y) (adopting s formed y i (s.steps y) refl (o.own.suited y) k f (adopts_at s formed y i roll (not_held s g o i Kind.Roll roll refl) b)) hy)
      (links_same (s.tags i).back (Some y))))
      (λ a.
      let e = rolling_out (s.steps y) (right_of (is_purging (s.tags y).kind) (is_rolling_out (stage_of (s.steps y))) a way) in
      let k = rolling_kind s g o y e in
      ⊎_elim
      (λ w. inr (refl, w, o.order.next_below y i (rolling_in s g o y e) f, rolling_body s g o y e))
      (λ w.
      let q = down_in (s.steps y) (s.tags y).forw e w in
      absurd (not_both (goes s i) (tells i y v (untold_back n s g o formed beyond y i q.0 q.1 f) (ap can_be_told k) (not_held s g o y Kind.Roll k refl) f) hi))
      (cases_Bool (up y)))
      (cases_Bool (is_purging (s.tags y).kind))

  -- where nobody there is, who is due at the back link goes on
  back_goes : (i b : ℕ) → up i ≡ true → goes s i ≡ false → (s.tags i).back ≡ Some b → ((z : ℕ) → IsDue s (Obstacle.Front i) z → ⊥) → is_taken (s.tags b) ≡ false → goes s b ≡ true
  back_goes i b v hi h none t =
      let e = (up_in (s.steps i) (s.tags i).forw v).0 in
      let z = back_is_front n s g o formed beyond i e none in
      let same : z.0 ≡ b = some_same z.0 b (sym z.3 ∙ h) in
      let inside : 0 < g.rank b = subst (λ (p : ℕ). 0 < g.rank p) same z.1 in
      let f : (s.tags b).forw ≡ Some i = subst (λ (p : ℕ). (s.tags p).forw ≡ Some i) same z.2 in
      let u = untaken n s g o formed beyond b t in
      let told : can_be_told (s.tags b).kind ≡ false = ⊎_elim (λ k. absurd (not_both (goes s i) (tells i b v h k u.0 f) hi)) (λ k. k) (cases_Bool (can_be_told (s.tags b).kind)) in
      runs b (waits_not (phase_of (s.steps b)) (s.tags b).kind (o.own.suited b) told u.1 (o.outside.kinds b inside) (λ k. queued_attached b i inside f (rolling_body s g o i e) k))

  up_falls : (i b y : ℕ) → up i ≡ true → goes s i ≡ false → goes s y ≡ false → (s.tags i).back ≡ Some b → IsDueInFront s i (Some b) y → Falls true i y
  up_falls i b y v hi hy h d =
      ⊎_elim
      (λ a. front_falls i y v hi hy a)
      (λ a. absurd (⊎_elim
      (λ w. not_both (goes s y) (runs y (worker_goes b y (s.steps y) w.1)) hy)
      (λ w. not_both (goes s b) (back_goes i b v hi h a.0 w.0) (subst (λ (j : ℕ). goes s j ≡ false) w.1 hy))
      a.1))
      d

  front_or_back : (i y : ℕ) (b : Option ℕ) → up i ≡ true → goes s i ≡ false → goes s y ≡ false → (s.tags i).back ≡ b → IsDueInFront s i b y → Falls true i y
  front_or_back i y None v hi hy eb w = absurd (o.own.body_back i (ap is_body (up_kind i v)) eb)
  front_or_back i y (Some b) v hi hy eb w = up_falls i b y v hi hy eb w

  up_here : (i : ℕ) (p : Pending) (f : Option ℕ) → s.steps i ≡ p → (s.tags i).forw ≡ f → is_up (stage_of p) f ≡ true → up i ≡ true
  up_here i p f e ef h = subst (λ (q : Pending). is_up (stage_of q) (s.tags i).forw ≡ true) (sym e) (subst (λ (l : Option ℕ). is_up (stage_of p) l ≡ true) (sym ef) h)

  falls_in : (i y : ℕ) (p : Pending) (f b : Option ℕ) → s.steps i ≡ p → (s.tags i).forw ≡ f → (s.tags i).back ≡ b → goes s i ≡ false → goes_in i s.memory (stage_of p) (tag_at s f) (tag_at s b) ≡ false → goes s y ≡ false → WaitsIn s i (stage_of p) f b y → Falls (is_up (stage_of p) f) i y
  falls_in i y (Pending.Queueing k) f b e ef eb hi h hy w = absurd (not_both (goes s y) (runs y (borrower_goes (s.steps y) w)) hy)
  falls_in i y (Pending.InQueue k u c) (Some x) b e ef eb hi h hy w = at_entry false i x y refl (queued_in n s g o formed beyond i x (ap phase_of e) ef).0 ef (λ t v. absurd (queue_top i x (ap phase_of e) ef (up_kind x v))) hy w
  falls_in i y (Pending.Purging l q) (Some x) b e ef eb hi h hy w =
      at_entry false i x y refl (last_in n s g o formed beyond i (inl (ap phase_of e))).0 ef
      (λ t v. purged_tells i x (ap phase_of e) (kind_in i Phase.Purging Kind.Purging (ap phase_of e) only_purging) ef (right_false (is_found is_settled_body (s.tags x)) (is_found is_rolling (s.tags x) && not (names i (s.tags x).back)) h) t v)
      hy w
  falls_in i y (Pending.Leaving u l q) (Some x) b e ef eb hi h hy w =
      at_entry false i x y refl (last_in n s g o formed beyond i (inr (ap phase_of e))).0 ef
      (λ t v. left_tells i x (ap phase_of e) (kind_in i Phase.Leaving Kind.Leaving (ap phase_of e) only_leaving) ef v)
      hy w
  falls_in i y (Pending.Rolling false q) (Some x) b e ef eb hi h hy w =
      let k = rolling_kind s g o i (ap phase_of e) in
      at_entry false i x y refl (rolling_in s g o i (ap phase_of e)) ef
      (λ t v. tells x i v (untold_back n s g o formed beyond i x q e ef) (ap can_be_told k) (not_held s g o i Kind.Roll k refl) ef)
      hy w
  falls_in i y (Pending.Rolling false q) None b e ef eb hi h hy w = front_or_back i y b (up_here i (Pending.Rolling false q) None e ef refl) hi hy eb w
  falls_in i y (Pending.Rolling true q) f b e ef eb hi h hy w = front_or_back i y b (up_here i (Pending.Rolling true q) f e ef refl) hi hy eb w
  falls_in i y Pending.Idle f b e ef eb hi h hy w = absurd w
  falls_in i y (Pending.InQueue k u c) None b e ef eb hi h hy w = absurd w
  falls_in i y (Pending.Purging l q) None b e ef eb hi h hy w = absurd w
  falls_in i y (Pending.Leaving u l q) None b e ef eb hi h hy w = absurd w
  falls_in i y _ f b e ef eb hi h hy w = absurd (not_both true refl h)

  falls : (i y : ℕ) → goes s i ≡ false → goes s y ≡ false → WaitsIn s i (stage_of (s.steps i)) (s.tags i).forw (s.tags i).back y → Falls (up i) i y
  falls i y hi hy w = falls_in i y (s.steps i) (s.tags i).forw (s.tags i).back refl refl refl hi hi hy w

  abbrev of_way : Bool → ℕ → ℕ
  of_way true r = g.rank g.last_front - r
  of_way false r = r

  abbrev pub height : ℕ → ℕ
  height i = of_way (up i) (g.rank i)

  lower : (i y : ℕ) (u v : Bool) → up i ≡ u → up y ≡ v → Falls u i y → of_way v (g.rank y) < of_way u (g.rank i)
  lower i y false false e d f = ⊎_elim (λ a. a.2) (λ a. absurd (not_both false a.0 refl)) f
  lower i y true true e d f = ⊎_elim (λ a. absurd (not_both true refl a.0)) (λ a. let l = a.2 in let m = a.3 in omega (arith, l, m)) f
  lower i y false true e d f = absurd (⊎_elim (λ a. not_both (up y) d a.1) (λ a. not_both false a.0 refl) f)
  lower i y true false e d f = absurd (⊎_elim (λ a. not_both true refl a.0) (λ a. not_both (up y) a.1 d) f)

  stuck : Below n (shape s) → (i y : ℕ) → Waits n s i y → goes s i ≡ false
  stuck l i y w = ⊎_elim (λ h. absurd (w.stuck (moves_of n s g o l i h))) (λ h. h) (cases_Bool (goes s i))

  pub no_circle : Below n (shape s) → (i y z : ℕ) → Waits n s i y → Waits n s y z → height y < height i
  no_circle l i y z a b = lower i y (up i) (up y) refl refl (falls i y (stuck l i y a) (stuck l y z b) a.whom)
