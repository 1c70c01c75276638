-- Where somebody is Rolling and nobody is in a step that goes on whatever it finds, a node in Rolling or the purger before it goes on.
use Rattle.std.proofs.Common.{◌≡◌, ◌≢◌, ◌⊎◌, ℕ, ◌<◌, ◌≤◌, ◌+◌, zero, suc, Bool, true, false, Option, Some, None, refl, sym, subst, inl, inr, ⊎_elim, arith}
use Rattle.std.proofs.lemmas.Bool.Decides.{nat_tests}
use Rattle.std.proofs.lemmas.Bool.{cases_lt, cases_eq, cases_Bool}
use Rattle.sci_words.specs.declared.tags.Kind.{Kind}
use Rattle.sci_core.specs.declared.pending.Pending.{Pending}
use Rattle.sci_core.specs.State.{State}
use Rattle.sci_words.specs.declared.memory.MemState.{MemState}
use Rattle.sci_core.specs.Shape.{Phase, shape, phase_of, flag_of, has_copy}
use Rattle.sci_core.specs.Law.{Law, Witness, suits, is_front, is_body}
use Rattle.sci_core.specs.Chain.{forward}
use Rattle.sci_core.specs.Found.{can_be_told}
use Rattle.sci_core.proofs.ReadBack.{path_of_law}
use Rattle.sci_core.proofs.ReadBack.Ranked.{stands}
use Rattle.sci_core.proofs.ReadBack.BackLinks.{back_links_of_law}

-- nobody is in one of these steps, whose plans have no wait
pub record Quiet (s : State) : Type 0 where
  pub holding : (i : ℕ) → phase_of (s.steps i) ≢ Phase.Holding
  pub copying : (i : ℕ) → phase_of (s.steps i) ≢ Phase.Copying
  pub ready : (i : ℕ) → phase_of (s.steps i) ≢ Phase.Ready
  pub converting : (i : ℕ) → phase_of (s.steps i) ≢ Phase.Converting
  pub advancing : (i : ℕ) → phase_of (s.steps i) ≢ Phase.Advancing

-- node i tells its successor; its predecessor; it adopts the entry behind it
abbrev pub TellsOn : State → ℕ → Type 0
TellsOn s i = (x : ℕ) × (phase_of (s.steps i) ≡ Phase.Rolling) × (flag_of (s.steps i) ≡ false) × ((s.tags i).forw ≡ Some x) × ((s.tags x).kind ≡ Kind.Valid) × ((s.tags x).held ≡ false) × ((s.tags x).back ≡ Some i)

abbrev pub TellsBack : State → ℕ → Type 0
TellsBack s i = (p : ℕ) × (phase_of (s.steps i) ≡ Phase.Rolling) × ((flag_of (s.steps i) ≡ true) ⊎ ((s.tags i).forw ≡ None)) × ((s.tags i).back ≡ Some p) × (can_be_told (s.tags p).kind ≡ true) × ((s.tags p).held ≡ false) × ((s.tags p).forw ≡ Some i)

abbrev pub Adopts : State → ℕ → Type 0
Adopts s i = (y : ℕ) × ((s.tags i).kind ≡ Kind.Purging) × ((s.tags i).forw ≡ Some y) × ((s.tags y).kind ≡ Kind.Roll) × ((s.tags y).held ≡ false) × ((s.tags y).back ≢ Some i)

abbrev pub RollsOn : State → Type 0
RollsOn s = (i : ℕ) × (TellsOn s i ⊎ TellsBack s i ⊎ Adopts s i)

-- the entry before y
abbrev pub Before : State → Witness → ℕ → Type 0
Before s g y = (p : ℕ) × (0 < g.rank p) × (g.rank p ≤ g.rank g.last_front) × ((s.tags p).forw ≡ Some y)

only_roll : (k : Kind) → suits Phase.Rolling k ≡ true → k ≡ Kind.Roll
only_roll k h = grind (arith, h)

roll_or_not : (k : Kind) → (k ≡ Kind.Roll) ⊎ (k ≢ Kind.Roll)
roll_or_not Kind.Roll = inl refl
roll_or_not _ = inr (λ e. grind (arith, e))

purging_or_not : (k : Kind) → (k ≡ Kind.Purging) ⊎ (k ≢ Kind.Purging)
purging_or_not Kind.Purging = inl refl
purging_or_not _ = inr (λ e. grind (arith, e))

module _ (s : State) (g : Witness) (o : Law (shape s) g) where
  pub rolling_kind : (i : ℕ) → phase_of (s.steps i) ≡ Phase.Rolling → (s.tags i).kind ≡ Kind.Roll
  rolling_kind i e = only_roll (s.tags i).kind (subst (λ (p : Phase). suits p (s.tags i).kind ≡ true) e (o.own.suited i))

  pub rolling_in : (i : ℕ) → phase_of (s.steps i) ≡ Phase.Rolling → 0 < g.rank i
  rolling_in i e = let c = o.outside.may_be i in let o : ℕ = 0 in grind (arith, c, e)

  pub rolling_body : (i : ℕ) → phase_of (s.steps i) ≡ Phase.Rolling → g.rank i < g.rank g.last_front
  rolling_body i e = let p = rolling_in i e in let k = rolling_kind i e in let c = o.fronts.front i p in let o : ℕ = 0 in grind (arith, c, k)

  -- an entry in Roll is Rolling
  pub roll_rolling : (i : ℕ) → 0 < g.rank i → (s.tags i).kind ≡ Kind.Roll → phase_of (s.steps i) ≡ Phase.Rolling
  roll_rolling i p k = let c0 = o.own.suited i in let c1 = o.outside.outside i in let o : ℕ = 0 in grind (arith, c0, c1, k, p)

  -- each entry behind another has one before it
  before_at : (x y : ℕ) (f : Option ℕ) → (s.tags x).forw ≡ f → 0 < g.rank y → g.rank y < g.rank x → g.rank x ≤ g.rank g.last_front
      → ((j : ℕ) → g.rank j < g.rank x → g.rank y < g.rank j → Before s g y) → Before s g y
  before_at x y None e p l t r = absurd (let c = o.order.last x y (omega (arith, l)) e l in omega (arith, c, p))
  before_at x y (Some j) e p l t r =
      let a : 0 < g.rank x = omega (arith, l) in
      let c = o.order.next_first x j y a e l in
      ⊎_elim (λ m. r j (o.order.next_below x j a e) m) (λ m. let same = o.order.apart y j p (omega (arith, c, m)) in (x, a, t, rw same e)) (cases_lt (g.rank y) (g.rank j))

  before : (k x y : ℕ) → g.rank x ≤ k → 0 < g.rank y → g.rank y < g.rank x → g.rank x ≤ g.rank g.last_front → Before s g y
  before zero x y h p l t = absurd (omega (arith, h, l))
  before (suc k) x y h p l t = before_at x y (s.tags x).forw refl p l t (λ j d m. before k j y (omega (arith, h, d)) p m (omega (arith, d, t)))

  pub rolling_before : (y : ℕ) → phase_of (s.steps y) ≡ Phase.Rolling → Before s g y
  rolling_before y e = before (g.rank g.last_front) g.last_front y (omega (arith)) (rolling_in y e) (rolling_body y e) (omega (arith))

  module _ (q : Quiet s) where
    -- no tag is held
    unheld : (i : ℕ) → (s.tags i).held ≡ false
    unheld i =
        let c0 = o.slots.held_by i in
        let c1 = q.holding i in
        let c2 = q.copying (g.copier i) in
        let o : ℕ = 0 in
        grind (arith, c0, c1, c2)

    -- no entry is Purged
    not_purged : (i : ℕ) → 0 < g.rank i → (s.tags i).kind ≢ Kind.Purged
    not_purged i p e = q.advancing g.last_front (o.fronts.purged i p e)

    -- that one can be told
    can_tell : (y p : ℕ) → phase_of (s.steps y) ≡ Phase.Rolling → 0 < g.rank p → g.rank p ≤ g.rank g.last_front → (s.tags p).forw ≡ Some y → can_be_told (s.tags p).kind ≡ true
    can_tell y p e i t h =
        let c0 = o.fronts.front p i in
        let c1 = o.fronts.body p i in
        let c2 = o.order.apart p g.last_front i in
        let c3 = o.fronts.attached y in
        let c4 = o.own.suited p in
        let c5 = not_purged p i in
        let c6 = q.converting p in
        let c7 = q.copying g.last_front in
        let c8 = q.ready g.last_front in
        let o : ℕ = 0 in
        grind (arith, nat_tests, c0, c1, c2, c3, c4, c5, c6, c7, c8, i, t, h)

    -- where y's back link is another's, that one is Purging, or has told y
    other : (y p b : ℕ) → phase_of (s.steps y) ≡ Phase.Rolling → 0 < g.rank p → g.rank p ≤ g.rank g.last_front → (s.tags p).forw ≡ Some y → (s.tags y).back ≡ Some b → (b ≡ p → ⊥)
        → ((s.tags p).kind ≢ Kind.Purging) → (phase_of (s.steps p) ≡ Phase.Rolling) × (flag_of (s.steps p) ≡ true)
    other y p b e i t h d n u =
        let yi = rolling_in y e in
        let below = o.order.next_below p y i h in
        let c0 = o.order.next_first p y b i h in
        let c1 = o.order.apart p b i in
        let c2 = o.backs.skip_roll y b p yi d below in
        let c3 = o.backs.skip_roll_out y b p yi d below in
        let c4 = o.backs.known_in y b yi d in
        let c5 = o.backs.known y b yi d in
        let c6 = o.backs.ahead y b yi d in
        let c7 = o.order.apart p g.last_front i in
        let roll : (s.tags p).kind ≡ Kind.Roll = let o : ℕ = 0 in grind (arith, nat_tests, c0, c1, c2, c3, c4, c5, c6, c7, i, t, n, u) in
        let phase = roll_rolling p i roll in
        let c8 = o.sees.untold p y b phase in
        (phase, ⊎_elim (λ f. f) (λ f. absurd (n (c8 f h d))) (cases_Bool (flag_of (s.steps p))))

    -- from one that is ready towards the head
    up_at : (y : ℕ) (b : Option ℕ) → (s.tags y).back ≡ b → Before s g y → phase_of (s.steps y) ≡ Phase.Rolling → (flag_of (s.steps y) ≡ true) ⊎ ((s.tags y).forw ≡ None)
        → ((p : ℕ) → phase_of (s.steps p) ≡ Phase.Rolling → flag_of (s.steps p) ≡ true → g.rank y < g.rank p → RollsOn s) → RollsOn s
    up_at y None d z e r again = absurd (let c = o.own.body_back y in let k = rolling_kind y e in let o : ℕ = 0 in grind (arith, c, k, d))
    up_at y (Some b) d z e r again =
        ⊎_elim
        (λ same. (y, inr (inl (z.0, e, r, subst (λ (m : ℕ). (s.tags y).back ≡ Some m) same d, can_tell y z.0 e z.1 z.2 z.3, unheld z.0, z.3))))
        (λ n. ⊎_elim
        (λ k. (z.0, inr (inr (y, k, z.3, rolling_kind y e, unheld y, (λ w. n (let o : ℕ = 0 in grind (arith, w, d)))))))
        (λ k. let told = other y z.0 b e z.1 z.2 z.3 d n k in again z.0 told.0 told.1 (o.order.next_below z.0 y z.1 z.3))
        (purging_or_not (s.tags z.0).kind))
        (cases_eq b z.0)

    up : (k y : ℕ) → phase_of (s.steps y) ≡ Phase.Rolling → (flag_of (s.steps y) ≡ true) ⊎ ((s.tags y).forw ≡ None) → g.rank g.last_front ≤ g.rank y + k → RollsOn s
    up zero y e r l = absurd (let c = rolling_body y e in omega (arith, c, l))
    up (suc k) y e r l = up_at y (s.tags y).back refl (rolling_before y e) e r (λ p a f d. up k p a (inl f) (omega (arith, l, d)))

    -- the entry behind an untold one in Rolling: it is that one's back link, and Valid unless it is in Roll
    behind_untold : (i x : ℕ) (b : Option ℕ) → (s.tags x).back ≡ b → phase_of (s.steps i) ≡ Phase.Rolling → flag_of (s.steps i) ≡ false → (s.tags i).forw ≡ Some x → (s.tags x).kind ≢ Kind.Roll
        → ((s.tags x).kind ≡ Kind.Valid) × (b ≡ Some i)
    behind_untold i x None d e f h n =
        let ii = rolling_in i e in
        let c0 = o.order.next_in i x ii h in
        let c1 = o.order.next_below i x ii h in
        let c2 = rolling_body i e in
        let c3 = o.fronts.body x c0 (omega (arith, c1, c2)) in
        absurd (o.own.body_back x c3 d)
    behind_untold i x (Some m) d e f h n =
        let ii = rolling_in i e in
        let c0 = o.order.next_in i x ii h in
        let c1 = o.order.next_below i x ii h in
        let c2 = rolling_body i e in
        let c3 = o.fronts.body x c0 (omega (arith, c1, c2)) in
        let c4 = not_purged x c0 in
        let c5 = o.sees.untold i x m e f h d in
        let valid : (s.tags x).kind ≡ Kind.Valid = let o : ℕ = 0 in grind (arith, c3, c4, n) in
        (valid, rw c5 refl)

    -- from any towards the tail
    down_at : (i : ℕ) (f : Option ℕ) → (s.tags i).forw ≡ f → phase_of (s.steps i) ≡ Phase.Rolling → flag_of (s.steps i) ≡ false
        → ((x : ℕ) → phase_of (s.steps x) ≡ Phase.Rolling → g.rank x < g.rank i → RollsOn s) → RollsOn s
    down_at i None h e u again = up (g.rank g.last_front) i e (inr h) (omega (arith))
    down_at i (Some x) h e u again =
        let ii = rolling_in i e in
        ⊎_elim
        (λ k. again x (roll_rolling x (o.order.next_in i x ii h) k) (o.order.next_below i x ii h))
        (λ k. let b = behind_untold i x (s.tags x).back refl e u h k in (i, inl (x, e, u, h, b.0, unheld x, b.1)))
        (roll_or_not (s.tags x).kind)

    down : (k i : ℕ) → phase_of (s.steps i) ≡ Phase.Rolling → g.rank i ≤ k → RollsOn s
    down zero i e l = absurd (let c = rolling_in i e in omega (arith, c, l))
    down (suc k) i e l =
        ⊎_elim
        (λ f. up (g.rank g.last_front) i e (inl f) (omega (arith)))
        (λ f. down_at i (s.tags i).forw refl e f (λ x a d. down k x a (omega (arith, l, d))))
        (cases_Bool (flag_of (s.steps i)))

    pub rolls_on : (i : ℕ) → phase_of (s.steps i) ≡ Phase.Rolling → RollsOn s
    rolls_on i e = down (g.rank i) i e (omega (arith))

-- the steps in which a plan may wait, but for Queueing
abbrev pub may_wait : Phase → Bool
may_wait Phase.Idle = true
may_wait Phase.InQueue = true
may_wait Phase.Purging = true
may_wait Phase.Leaving = true
may_wait Phase.Rolling = true
may_wait _ = false

-- node i settles, or attaches the old head; writes, or purges the next entry; returns home, or promotes the next entry
abbrev pub Enters : State → ℕ → Type 0
Enters s i = (phase_of (s.steps i) ≡ Phase.InQueue) × (((s.tags i).forw ≡ None) ⊎ ((x : ℕ) × ((s.tags i).forw ≡ Some x) × ((s.tags x).held ≡ false)
    × (((flag_of (s.steps i) ≡ false) × (has_copy (s.steps i) ≡ true) × ((s.tags x).kind ≡ Kind.Fresh)) ⊎ ((flag_of (s.steps i) ≡ true) × (has_copy (s.steps i) ≡ false) × ((s.tags x).kind ≡ Kind.Dirty)))))

abbrev pub Purges : State → ℕ → Type 0
Purges s i = (phase_of (s.steps i) ≡ Phase.Purging) × (((s.tags i).forw ≡ None) ⊎ ((x : ℕ) × ((s.tags i).forw ≡ Some x) × ((s.tags x).held ≡ false) × ((s.tags x).kind ≡ Kind.Valid)))

abbrev pub Leaves : State → ℕ → Type 0
Leaves s i = (phase_of (s.steps i) ≡ Phase.Leaving) × (((s.tags i).forw ≡ None) ⊎ ((x : ℕ) × ((s.tags i).forw ≡ Some x) × ((s.tags x).held ≡ false) × ((s.tags x).kind ≡ Kind.Valid) × ((s.tags x).back ≡ Some i)))

abbrev pub GoesOn : State → Type 0
GoesOn s = RollsOn s ⊎ ((i : ℕ) × (Enters s i ⊎ Purges s i ⊎ Leaves s i))

front_cases : (p : Phase) (k : Kind) → suits p k ≡ true → is_front k ≡ true → may_wait p ≡ true → (p ≡ Phase.Idle) ⊎ (p ≡ Phase.InQueue) ⊎ (p ≡ Phase.Purging) ⊎ (p ≡ Phase.Leaving)
front_cases Phase.Idle k h f w = inl refl
front_cases Phase.InQueue k h f w = inr (inl refl)
front_cases Phase.Purging k h f w = inr (inr (inl refl))
front_cases Phase.Leaving k h f w = inr (inr (inr refl))
front_cases Phase.Rolling k h f w = absurd (let e = only_roll k h in grind (arith, e, f))
front_cases _ k h f w = absurd (grind (arith, w))

attach_case : (m : MemState) (f c : Bool) (k : Kind) → (m ≢ MemState.Home) → (k ≡ Kind.Fresh) ⊎ (k ≡ Kind.Dirty) → (m ≡ MemState.Fresh → (f ≡ false) × (c ≡ true) × (k ≢ Kind.Dirty)) → (m ≡ MemState.Gone → (f ≡ true) × (c ≡ false) × (k ≢ Kind.Fresh))
    → ((f ≡ false) × (c ≡ true) × (k ≡ Kind.Fresh)) ⊎ ((f ≡ true) × (c ≡ false) × (k ≡ Kind.Dirty))
attach_case MemState.Home f c k n s x y = absurd (n refl)
attach_case MemState.Fresh f c k n s x y = let a = x refl in inl (a.0, a.1, ⊎_elim (λ e. e) (λ e. absurd (a.2 e)) s)
attach_case MemState.Gone f c k n s x y = let a = y refl in inr (a.0, a.1, ⊎_elim (λ e. absurd (a.2 e)) (λ e. e) s)

not_in_body : (p : Phase) (k : Kind) → suits p k ≡ true → may_wait p ≡ true → (p ≢ Phase.Idle) → (p ≢ Phase.Rolling) → is_body k ≡ true → ⊥
not_in_body Phase.Idle k h w a b c = a refl
not_in_body Phase.Rolling k h w a b c = b refl
not_in_body Phase.InQueue k h w a b c = grind (arith, h, c)
not_in_body Phase.Purging k h w a b c = grind (arith, h, c)
not_in_body Phase.Leaving k h w a b c = grind (arith, h, c)
not_in_body _ k h w a b c = grind (arith, w)

settled_front : (k : Kind) → suits Phase.Idle k ≡ true → is_front k ≡ true → (k ≡ Kind.Fresh) ⊎ (k ≡ Kind.Dirty)
settled_front Kind.Fresh h f = inl refl
settled_front Kind.Dirty h f = inr refl
settled_front _ h f = absurd (grind (arith, h, f))

module _ (s : State) (g : Witness) (o : Law (shape s) g) (w : (i : ℕ) → may_wait (phase_of (s.steps i)) ≡ true) where
  quiet : Quiet s
  quiet = record {
    holding = λ i e. let c = w i in let o : ℕ = 0 in grind (arith, c, e);
    copying = λ i e. let c = w i in let o : ℕ = 0 in grind (arith, c, e);
    ready = λ i e. let c = w i in let o : ℕ = 0 in grind (arith, c, e);
    converting = λ i e. let c = w i in let o : ℕ = 0 in grind (arith, c, e);
    advancing = λ i e. let c = w i in let o : ℕ = 0 in grind (arith, c, e);
  }

  -- the entry behind the last front, where nobody is Rolling: Valid, and the last front is its back link unless it is Purging
  behind_front : ((i : ℕ) → phase_of (s.steps i) ≢ Phase.Rolling) → (x : ℕ) → 0 < g.rank g.last_front → (s.tags g.last_front).forw ≡ Some x → (s.tags x).kind ≡ Kind.Valid
  behind_front r x p h =
      let c0 = o.order.next_in g.last_front x p h in
      let c1 = o.order.next_below g.last_front x p h in
      let c2 = o.fronts.body x c0 c1 in
      let c3 = not_purged s g o quiet x c0 in
      let c4 = λ (k : (s.tags x).kind ≡ Kind.Roll). r x (roll_rolling s g o x c0 k) in
      ⊎_elim (λ k. absurd (c4 k)) (λ k. let o : ℕ = 0 in grind (arith, c2, c3, k)) (roll_or_not (s.tags x).kind)

  in_queue_goes : (f : Option ℕ) → (s.tags g.last_front).forw ≡ f → 0 < g.rank g.last_front → phase_of (s.steps g.last_front) ≡ Phase.InQueue → GoesOn s
  in_queue_goes None h p e = inr (g.last_front, inl (e, inl h))
  in_queue_goes (Some x) h p e = absurd (let c0 = o.fronts.attached x p in let c1 = o.own.suited g.last_front in let o : ℕ = 0 in grind (arith, c0, c1, h, e))

  purging_goes : ((i : ℕ) → phase_of (s.steps i) ≢ Phase.Rolling) → (f : Option ℕ) → (s.tags g.last_front).forw ≡ f → 0 < g.rank g.last_front → phase_of (s.steps g.last_front) ≡ Phase.Purging → GoesOn s
  purging_goes r None h p e = inr (g.last_front, inr (inl (e, inl h)))
  purging_goes r (Some x) h p e = inr (g.last_front, inr (inl (e, inr (x, h, unheld s g o quiet x, behind_front r x p h))))

  leaving_goes : ((i : ℕ) → phase_of (s.steps i) ≢ Phase.Rolling) → (f : Option ℕ) → (s.tags g.last_front).forw ≡ f → 0 < g.rank g.last_front → phase_of (s.steps g.last_front) ≡ Phase.Leaving → GoesOn s
  leaving_goes r None h p e = inr (g.last_front, inr (inr (e, inl h)))
  leaving_goes r (Some x) h p e =
      let k = behind_front r x p h in
      let n = path_of_law s g o in
      let b = (back_links_of_law s g o n.0 (stands s.memory.forw (forward s) g.rank o.order n.0 n.1)).neighbour g.last_front x ((stands s.memory.forw (forward s) g.rank o.order n.0 n.1).holds g.last_front p, h) (rw k refl)
      (let c = o.own.suited g.last_front in λ a. let o : ℕ = 0 in grind (arith, c, a, e)) (let c = o.own.suited g.last_front in λ a. let o : ℕ = 0 in grind (arith, c, a, e)) in
      inr (g.last_front, inr (inr (e, inr (x, h, unheld s g o quiet x, k, b))))

  -- the front before one that is settled attaches it
  attaches : (y : ℕ) → 0 < g.rank y → (s.tags y).forw ≡ Some g.last_front → 0 < g.rank g.last_front → phase_of (s.steps g.last_front) ≡ Phase.Idle → GoesOn s
  attaches y p h q e =
      let above = o.order.next_below y g.last_front p h in
      let c0 = o.fronts.queue y above in
      let c1 = w y in
      let phase : phase_of (s.steps y) ≡ Phase.InQueue = let o : ℕ = 0 in grind (arith, c0, c1) in
      let front = o.fronts.front g.last_front q (omega (arith)) in
      let settled = settled_front (s.tags g.last_front).kind (subst (λ (m : Phase). suits m (s.tags g.last_front).kind ≡ true) e (o.own.suited g.last_front)) front in
      let not_home : s.memory.state ≢ MemState.Home = λ m. let c = o.order.empty y (o.mode.home m) in omega (arith, c, p) in
      let fresh : s.memory.state ≡ MemState.Fresh → (flag_of (s.steps y) ≡ false) × (has_copy (s.steps y) ≡ true) × ((s.tags g.last_front).kind ≢ Kind.Dirty) = λ m. (o.mode.not_flagged y m p (rw phase refl), o.mode.has_copy y m p phase, o.mode.not_dirty g.last_front m q) in
      let gone : s.memory.state ≡ MemState.Gone → (flag_of (s.steps y) ≡ true) × (has_copy (s.steps y) ≡ false) × ((s.tags g.last_front).kind ≢ Kind.Fresh) = λ m. (o.mode.gone_flag y m above, o.mode.gone_copy y m above phase, (let c = o.mode.gone m in λ k. let o : ℕ = 0 in grind (arith, c, k))) in
      inr (y, inl (phase, inr (g.last_front, h, unheld s g o quiet g.last_front, attach_case s.memory.state (flag_of (s.steps y)) (has_copy (s.steps y)) (s.tags g.last_front).kind not_home settled fresh gone)))

  -- each entry above another has one before that
  above_at : (x y : ℕ) (f : Option ℕ) → (s.tags x).forw ≡ f → 0 < g.rank y → g.rank y < g.rank x
      → ((j : ℕ) → g.rank j < g.rank x → g.rank y < g.rank j → (p : ℕ) × (0 < g.rank p) × ((s.tags p).forw ≡ Some y)) → (p : ℕ) × (0 < g.rank p) × ((s.tags p).forw ≡ Some y)
  above_at x y None e p l r = absurd (let c = o.order.last x y (omega (arith, l)) e l in omega (arith, c, p))
  above_at x y (Some j) e p l r =
      let a : 0 < g.rank x = omega (arith, l) in
      let c = o.order.next_first x j y a e l in
      ⊎_elim (λ m. r j (o.order.next_below x j a e) m) (λ m. let same = o.order.apart y j p (omega (arith, c, m)) in (x, a, rw same e)) (cases_lt (g.rank y) (g.rank j))

  above : (k x y : ℕ) → g.rank x ≤ k → 0 < g.rank y → g.rank y < g.rank x → (p : ℕ) × (0 < g.rank p) × ((s.tags p).forw ≡ Some y)
  above zero x y h p l = absurd (omega (arith, h, l))
  above (suc k) x y h p l = above_at x y (s.tags x).forw refl p l (λ j d m. above k j y (omega (arith, h, d)) p m)

  -- somebody in the chain isn't Idle, and nobody is Rolling
  front_goes : ((i : ℕ) → phase_of (s.steps i) ≢ Phase.Rolling) → (i : ℕ) → phase_of (s.steps i) ≢ Phase.Idle → GoesOn s
  front_goes r i n =
      let c0 = w i in
      let c1 = r i in
      let c2 = o.own.suited i in
      let c3 = o.outside.may_be i in
      let inside : 0 < g.rank i = let o : ℕ = 0 in grind (arith, c0, c1, c2, c3, n) in
      let body = o.fronts.body i inside in
      let top : g.rank g.last_front ≤ g.rank i = ⊎_elim (λ l. absurd (not_in_body (phase_of (s.steps i)) (s.tags i).kind c2 c0 n c1 (body l))) (λ l. omega (arith, l)) (cases_lt (g.rank i) (g.rank g.last_front)) in
      let q = o.fronts.last_front_in i inside in
      let front = o.fronts.front g.last_front q (omega (arith)) in
      ⊎_elim
      (λ e. ⊎_elim
      (λ l. let z = above (g.rank i) i g.last_front (omega (arith)) q l in attaches z.0 z.1 z.2 q e)
      (λ l. absurd (n (let same = o.order.apart i g.last_front inside (omega (arith, l, top)) in rw same e)))
      (cases_lt (g.rank g.last_front) (g.rank i)))
      (λ a. ⊎_elim (λ e. in_queue_goes (s.tags g.last_front).forw refl q e) (λ b. ⊎_elim (λ e. purging_goes r (s.tags g.last_front).forw refl q e) (λ e. leaving_goes r (s.tags g.last_front).forw refl q e) b) a)
      (front_cases (phase_of (s.steps g.last_front)) (s.tags g.last_front).kind (o.own.suited g.last_front) front (w g.last_front))

  -- somebody isn't Idle: somebody goes on
  pub goes_on : ((i : ℕ) → (phase_of (s.steps i) ≡ Phase.Rolling) → ⊥) ⊎ ((i : ℕ) × (phase_of (s.steps i) ≡ Phase.Rolling)) → (i : ℕ) → phase_of (s.steps i) ≢ Phase.Idle → GoesOn s
  goes_on c i n = ⊎_elim (λ r. front_goes r i n) (λ r. inl (rolls_on s g o quiet r.0 r.1)) c

-- the steps whose plans have no wait
abbrev pub never_waits : Phase → Bool
never_waits Phase.Idle = false
never_waits Phase.Queueing = false
never_waits Phase.InQueue = false
never_waits Phase.Purging = false
never_waits Phase.Leaving = false
never_waits Phase.Rolling = false
never_waits _ = true

abbrev is_queueing : Phase → Bool
is_queueing Phase.Queueing = true
is_queueing _ = false

abbrev is_rolling_step : Phase → Bool
is_rolling_step Phase.Rolling = true
is_rolling_step _ = false

abbrev is_busy : Phase → Bool
is_busy Phase.Idle = false
is_busy _ = true

-- somebody is in a step whose plan has no wait, or is Queueing while memory isn't lent, or goes on as above
abbrev pub SomebodyGoes : State → Type 0
SomebodyGoes s = ((i : ℕ) × (never_waits (phase_of (s.steps i)) ≡ true)) ⊎ ((i : ℕ) × (phase_of (s.steps i) ≡ Phase.Queueing) × (s.memory.lent ≡ false)) ⊎ GoesOn s

-- a node below n of which this is true, or none
search_in : (f : ℕ → Bool) (n : ℕ) → ((i : ℕ) × (f i ≡ true)) ⊎ ((i : ℕ) → i < n → f i ≡ false)
search_in f zero = inr (λ i l. absurd (omega (arith, l)))
search_in f (suc n) =
    ⊎_elim (λ a. inl a)
    (λ r. ⊎_elim (λ t. inl (n, t)) (λ t. inr (λ i l. ⊎_elim (λ m. r i m) (λ m. let e : i ≡ n = omega (arith, l, m) in rw e t) (cases_lt i n))) (cases_Bool (f n)))
    (search_in f n)

-- or none at all, if it is true of no node from n on
find : (f : ℕ → Bool) (n : ℕ) → ((i : ℕ) → n ≤ i → f i ≡ false) → ((i : ℕ) × (f i ≡ true)) ⊎ ((i : ℕ) → f i ≡ false)
find f n h = ⊎_elim (λ a. inl a) (λ r. inr (λ i. ⊎_elim (λ l. r i l) (λ l. h i (omega (arith, l))) (cases_lt i n))) (search_in f n)

idle_step : (p : Pending) → is_busy (phase_of p) ≡ false → p ≡ Pending.Idle
idle_step Pending.Idle h = refl
idle_step _ h = absurd (grind (arith, h))

queueing_phase : (p : Phase) → is_queueing p ≡ true → p ≡ Phase.Queueing
queueing_phase Phase.Queueing h = refl
queueing_phase _ h = absurd (grind (arith, h))

rolling_phase : (p : Phase) → is_rolling_step p ≡ true → p ≡ Phase.Rolling
rolling_phase Phase.Rolling h = refl
rolling_phase _ h = absurd (grind (arith, h))

others_wait : (p : Phase) → never_waits p ≡ false → is_queueing p ≡ false → may_wait p ≡ true
others_wait p a b = grind (arith, a, b)

module _ (s : State) (g : Witness) (o : Law (shape s) g) (n : ℕ) (rest : (i : ℕ) → n ≤ i → s.steps i ≡ Pending.Idle) where
  beyond : (f : Phase → Bool) → f Phase.Idle ≡ false → (i : ℕ) → n ≤ i → f (phase_of (s.steps i)) ≡ false
  beyond f e i l = subst (λ (p : Pending). f (phase_of p) ≡ false) (sym (rest i l)) e

  not_lent : ((i : ℕ) → never_waits (phase_of (s.steps i)) ≡ false) → s.memory.lent ≡ false
  not_lent a = let c0 = o.slots.borrower_has in let c1 = a g.borrower in let o : ℕ = 0 in grind (arith, c0, c1)

  waiting_goes : ((i : ℕ) → may_wait (phase_of (s.steps i)) ≡ true) → (i : ℕ) → is_busy (phase_of (s.steps i)) ≡ true → GoesOn s
  waiting_goes w i b =
      goes_on s g o w
      (⊎_elim (λ r. inr (r.0, rolling_phase (phase_of (s.steps r.0)) r.1)) (λ r. inl (λ j e. let c = r j in let o : ℕ = 0 in grind (arith, c, e))) (find (λ j. is_rolling_step (phase_of (s.steps j))) n (beyond is_rolling_step refl)))
      i (λ e. let o : ℕ = 0 in grind (arith, b, e))

  -- a line is at rest, or somebody goes on
  pub rest_or_goes : ((i : ℕ) → s.steps i ≡ Pending.Idle) ⊎ SomebodyGoes s
  rest_or_goes =
      ⊎_elim
      (λ a. inr (inl a))
      (λ a. ⊎_elim
      (λ q. inr (inr (inl (q.0, queueing_phase (phase_of (s.steps q.0)) q.1, not_lent a))))
      (λ q. ⊎_elim
      (λ b. inr (inr (inr (waiting_goes (λ i. others_wait (phase_of (s.steps i)) (a i) (q i)) b.0 b.1))))
      (λ b. inl (λ i. idle_step (s.steps i) (b i)))
      (find (λ i. is_busy (phase_of (s.steps i))) n (beyond is_busy refl)))
      (find (λ i. is_queueing (phase_of (s.steps i))) n (beyond is_queueing refl)))
      (find (λ i. never_waits (phase_of (s.steps i))) n (beyond never_waits refl))
