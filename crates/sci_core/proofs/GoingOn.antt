-- Where a step isn't Idle, somebody goes on.
use Rattle.std.proofs.Common.{◌≡◌, ◌≢◌, ◌⊎◌, ℕ, ◌<◌, ◌≤◌, Bool, true, false, ◌&&◌, ◌||◌, not, Option, Some, None, refl, sym, ap, subst, ⊎_elim, ◌∙◌, arith}
use Rattle.std.proofs.lemmas.Bool.Decides.{nat_tests}
use Rattle.std.proofs.lemmas.Bool.{cases_lt}
use Rattle.sci_words.specs.declared.tags.Kind.{Kind}
use Rattle.sci_words.specs.declared.tags.Tag.{Tag}
use Rattle.sci_words.specs.declared.memory.Mem.{Mem}
use Rattle.sci_words.specs.Tag.{tag_well_formed}
use Rattle.sci_core.specs.declared.pending.Pending.{Pending}
use Rattle.sci_core.specs.declared.stages.Stage.{Stage}
use Rattle.sci_core.specs.State.{State}
use Rattle.sci_core.specs.Shape.{Phase, shape, phase_of, flag_of, has_copy}
use Rattle.sci_core.specs.Law.{Law, Witness, suits}
use Rattle.sci_core.specs.Found.{names, is_fresh, is_dirty, is_settled_body, is_rolling, can_be_told, is_found}
use Rattle.sci_core.specs.Stage.{stage_of}
use Rattle.sci_core.specs.WellFormed.{HasWellFormedWords}
use Rattle.sci_core.specs.Progress.{IsAtRest, tag_at, purges_or_adopts, is_next, is_before, goes_in, goes}
use Rattle.sci_core.proofs.Progress.{TellsOn, TellsBack, RollsOn, Enters, Purges, Leaves, SomebodyGoes, never_waits, rest_or_goes}

both : (a b : Bool) → a ≡ true → b ≡ true → (a && b) ≡ true
both true b p q = q
both false b p q = absurd (cc)

or_right : (a b : Bool) → b ≡ true → (a || b) ≡ true
or_right true b q = refl
or_right false b q = q

or_left : (a b : Bool) → a ≡ true → (a || b) ≡ true
or_left true b q = refl
or_left false b q = absurd (cc)

pub found : (f : Kind → Bool) (t : Tag) → f t.kind ≡ true → t.held ≡ false → tag_well_formed t ≡ true → is_found f t ≡ true
found f t k h w = both (f t.kind) (not t.held && tag_well_formed t) k (both (not t.held) (tag_well_formed t) (ap not h) w)

names_it : (i : ℕ) (l : Option ℕ) → l ≡ Some i → names i l ≡ true
names_it i None e = absurd (cc)
names_it i (Some x) e = grind (arith, nat_tests)

names_not : (i : ℕ) (l : Option ℕ) → l ≢ Some i → names i l ≡ false
names_not i None e = refl
names_not i (Some x) e = grind (arith, nat_tests)

in_queue_stage : (p : Pending) (d c : Bool) → phase_of p ≡ Phase.InQueue → flag_of p ≡ d → has_copy p ≡ c → (f : Option ℕ) × (stage_of p ≡ Stage.InQueue f d c)
in_queue_stage (Pending.InQueue f u (Some l)) d c e h k = (f, ap (λ (b : Bool). Stage.InQueue f b true) h ∙ ap (λ (b : Bool). Stage.InQueue f d b) k)
in_queue_stage (Pending.InQueue f u None) d c e h k = (f, ap (λ (b : Bool). Stage.InQueue f b false) h ∙ ap (λ (b : Bool). Stage.InQueue f d b) k)
in_queue_stage _ d c e h k = absurd (grind (arith, e))

purging_stage : (p : Pending) → phase_of p ≡ Phase.Purging → (q : Option (Option ℕ)) × (stage_of p ≡ Stage.Purging q)
purging_stage (Pending.Purging l q) e = (q, refl)
purging_stage _ e = absurd (grind (arith, e))

leaving_stage : (p : Pending) → phase_of p ≡ Phase.Leaving → (d : Bool) × (q : Option (Option ℕ)) × (stage_of p ≡ Stage.Leaving d q)
leaving_stage (Pending.Leaving d l q) e = (d, q, refl)
leaving_stage _ e = absurd (grind (arith, e))

rolling_stage : (p : Pending) (t : Bool) → phase_of p ≡ Phase.Rolling → flag_of p ≡ t → (q : Option (Option ℕ × ℕ)) × (stage_of p ≡ Stage.Rolling t q)
rolling_stage (Pending.Rolling u q) t e h = (q, ap (λ (b : Bool). Stage.Rolling b q) h)
rolling_stage _ t e h = absurd (grind (arith, e))

queueing_stage : (p : Pending) → phase_of p ≡ Phase.Queueing → (f : Option ℕ) × (stage_of p ≡ Stage.Queueing f)
queueing_stage (Pending.Queueing f) e = (f, refl)
queueing_stage _ e = absurd (grind (arith, e))

pub always : (me : ℕ) (m : Mem) (p : Pending) (next before : Option Tag) → never_waits (phase_of p) ≡ true → goes_in me m (stage_of p) next before ≡ true
always me m (Pending.Holding w l) next before h = refl
always me m (Pending.Fetching f d l) next before h = refl
always me m (Pending.Copying f w l) next before h = refl
always me m (Pending.Ready f d l) next before h = refl
always me m (Pending.Converting f t) next before h = refl
always me m (Pending.Advancing l v w) next before h = refl
always me m (Pending.Clearing l v w) next before h = refl
always me m (Pending.Promoted d l x) next before h = refl
always me m (Pending.WritingBack l) next before h = refl
always me m (Pending.Parted f) next before h = refl
always me m (Pending.Unlinked f b) next before h = refl
always me m _ next before h = absurd (grind (arith, h))

module _ (s : State) (formed : HasWellFormedWords s) where
  goes_at : (i : ℕ) (p : Stage) (f b : Option ℕ) → stage_of (s.steps i) ≡ p → (s.tags i).forw ≡ f → (s.tags i).back ≡ b → goes_in i s.memory p (tag_at s f) (tag_at s b) ≡ true → goes s i ≡ true
  goes_at i p f b ep ef eb h =
      subst (λ (q : Stage). goes_in i s.memory q (tag_at s (s.tags i).forw) (tag_at s (s.tags i).back) ≡ true) (sym ep)
      (subst (λ (l : Option ℕ). goes_in i s.memory p (tag_at s l) (tag_at s (s.tags i).back) ≡ true) (sym ef)
      (subst (λ (l : Option ℕ). goes_in i s.memory p (tag_at s f) (tag_at s l) ≡ true) (sym eb) h))

  pub next_at : (i x : ℕ) → (s.tags x).kind ≡ Kind.Valid → (s.tags x).held ≡ false → (s.tags x).back ≡ Some i → is_next i (s.tags x) ≡ true
  next_at i x k h b = both (is_found is_settled_body (s.tags x)) (names i (s.tags x).back) (found is_settled_body (s.tags x) (ap is_settled_body k) h (formed.tags x)) (names_it i (s.tags x).back b)

  pub before_at : (i p : ℕ) → can_be_told (s.tags p).kind ≡ true → (s.tags p).held ≡ false → (s.tags p).forw ≡ Some i → is_before i (s.tags p) ≡ true
  before_at i p k h f = both (is_found can_be_told (s.tags p)) (names i (s.tags p).forw) (found can_be_told (s.tags p) k h (formed.tags p)) (names_it i (s.tags p).forw f)

  pub adopts_at : (i y : ℕ) → (s.tags y).kind ≡ Kind.Roll → (s.tags y).held ≡ false → (s.tags y).back ≢ Some i → purges_or_adopts i (s.tags y) ≡ true
  adopts_at i y k h b =
      or_right (is_found is_settled_body (s.tags y)) (is_found is_rolling (s.tags y) && not (names i (s.tags y).back))
      (both (is_found is_rolling (s.tags y)) (not (names i (s.tags y).back)) (found is_rolling (s.tags y) (ap is_rolling k) h (formed.tags y)) (ap not (names_not i (s.tags y).back b)))

  pub purges_at : (i y : ℕ) → (s.tags y).kind ≡ Kind.Valid → (s.tags y).held ≡ false → purges_or_adopts i (s.tags y) ≡ true
  purges_at i y k h =
      or_left (is_found is_settled_body (s.tags y)) (is_found is_rolling (s.tags y) && not (names i (s.tags y).back))
      (found is_settled_body (s.tags y) (ap is_settled_body k) h (formed.tags y))

  tells_on : (i : ℕ) → TellsOn s i → goes s i ≡ true
  tells_on i t = let q = rolling_stage (s.steps i) false t.1 t.2 in goes_at i (Stage.Rolling false q.0) (Some t.0) (s.tags i).back q.1 t.3 refl (next_at i t.0 t.4 t.5 t.6)

  pub tells_back_at : (i p : ℕ) (f : Option ℕ) (u : Bool) → phase_of (s.steps i) ≡ Phase.Rolling → flag_of (s.steps i) ≡ u → (s.tags i).forw ≡ f → (u ≡ true) ⊎ (f ≡ None) → (s.tags i).back ≡ Some p → is_before i (s.tags p) ≡ true → goes s i ≡ true
  tells_back_at i p f true e h ef c eb t = let q = rolling_stage (s.steps i) true e h in goes_at i (Stage.Rolling true q.0) f (Some p) q.1 ef eb t
  tells_back_at i p None false e h ef c eb t = let q = rolling_stage (s.steps i) false e h in goes_at i (Stage.Rolling false q.0) None (Some p) q.1 ef eb t
  tells_back_at i p (Some x) false e h ef c eb t = absurd (⊎_elim (λ a. grind (arith, a)) (λ a. grind (arith, a)) c)

  tells_back : (i : ℕ) → TellsBack s i → goes s i ≡ true
  tells_back i t = tells_back_at i t.0 (s.tags i).forw (flag_of (s.steps i)) t.1 refl refl t.2 t.3 (before_at i t.0 t.4 t.5 t.6)

  pub adopting : (i y : ℕ) (p : Pending) → s.steps i ≡ p → suits (phase_of p) (s.tags i).kind ≡ true → (s.tags i).kind ≡ Kind.Purging → (s.tags i).forw ≡ Some y → purges_or_adopts i (s.tags y) ≡ true → goes s i ≡ true
  adopting i y (Pending.Purging l q) e u k ef h = goes_at i (Stage.Purging q) (Some y) (s.tags i).back (ap stage_of e) ef refl h
  adopting i y (Pending.Advancing l v w) e u k ef h = goes_at i (Stage.Advancing v w) (s.tags i).forw (s.tags i).back (ap stage_of e) refl refl refl
  adopting i y (Pending.Clearing l v w) e u k ef h = goes_at i (Stage.Clearing v w) (s.tags i).forw (s.tags i).back (ap stage_of e) refl refl refl
  adopting i y _ e u k ef h = absurd (grind (arith, u, k))

  enters : (i : ℕ) → Enters s i → goes s i ≡ true
  enters i t =
      ⊎_elim
      (λ n. let q = in_queue_stage (s.steps i) (flag_of (s.steps i)) (has_copy (s.steps i)) t.0 refl refl in goes_at i (Stage.InQueue q.0 (flag_of (s.steps i)) (has_copy (s.steps i))) None (s.tags i).back q.1 n refl refl)
      (λ x. ⊎_elim
      (λ a. let q = in_queue_stage (s.steps i) false true t.0 a.0 a.1 in goes_at i (Stage.InQueue q.0 false true) (Some x.0) (s.tags i).back q.1 x.1 refl (found is_fresh (s.tags x.0) (ap is_fresh a.2) x.2 (formed.tags x.0)))
      (λ a. let q = in_queue_stage (s.steps i) true false t.0 a.0 a.1 in goes_at i (Stage.InQueue q.0 true false) (Some x.0) (s.tags i).back q.1 x.1 refl (found is_dirty (s.tags x.0) (ap is_dirty a.2) x.2 (formed.tags x.0)))
      x.3)
      t.1

  purges : (i : ℕ) → Purges s i → goes s i ≡ true
  purges i t =
      let q = purging_stage (s.steps i) t.0 in
      ⊎_elim
      (λ n. goes_at i (Stage.Purging q.0) None (s.tags i).back q.1 n refl refl)
      (λ x. goes_at i (Stage.Purging q.0) (Some x.0) (s.tags i).back q.1 x.1 refl (purges_at i x.0 x.3 x.2))
      t.1

  leaves : (i : ℕ) → Leaves s i → goes s i ≡ true
  leaves i t =
      let q = leaving_stage (s.steps i) t.0 in
      ⊎_elim
      (λ n. goes_at i (Stage.Leaving q.0 q.1) None (s.tags i).back q.2 n refl refl)
      (λ x. goes_at i (Stage.Leaving q.0 q.1) (Some x.0) (s.tags i).back q.2 x.1 refl (or_right (not (names i s.memory.forw)) (is_next i (s.tags x.0)) (next_at i x.0 x.3 x.2 x.4)))
      t.1

  pub goes_idle : (i : ℕ) → s.steps i ≡ Pending.Idle → goes s i ≡ false
  goes_idle i e = ap (λ (p : Pending). goes_in i s.memory (stage_of p) (tag_at s (s.tags i).forw) (tag_at s (s.tags i).back)) e

  module _ (g : Witness) (o : Law (shape s) g) where
    rolls : RollsOn s → (i : ℕ) × (goes s i ≡ true)
    rolls r =
        (r.0, ⊎_elim (λ a. tells_on r.0 a) (λ a. ⊎_elim (λ b. tells_back r.0 b) (λ b. adopting r.0 b.0 (s.steps r.0) refl (o.own.suited r.0) b.1 b.2 (adopts_at r.0 b.0 b.3 b.4 b.5)) a) r.1)

    somebody : SomebodyGoes s → (i : ℕ) × (goes s i ≡ true)
    somebody m =
        ⊎_elim
        (λ a. (a.0, always a.0 s.memory (s.steps a.0) (tag_at s (s.tags a.0).forw) (tag_at s (s.tags a.0).back) a.1))
        (λ a. ⊎_elim
        (λ b. let q = queueing_stage (s.steps b.0) b.1 in (b.0, goes_at b.0 (Stage.Queueing q.0) (s.tags b.0).forw (s.tags b.0).back q.1 refl refl (ap not b.2)))
        (λ b. ⊎_elim rolls (λ c. (c.0, ⊎_elim (λ d. enters c.0 d) (λ d. ⊎_elim (λ k. purges c.0 k) (λ k. leaves c.0 k) d) c.1)) b)
        a)
        m

    -- where nobody goes on, every step is Idle
    pub rests : (n : ℕ) → ((i : ℕ) → n ≤ i → s.steps i ≡ Pending.Idle) → ((i : ℕ) → i < n → goes s i ≡ false) → IsAtRest s
    rests n beyond h =
        ⊎_elim
        (λ r. r)
        (λ m. let z = somebody m in absurd (⊎_elim (λ l. let c = h z.0 l in let d = z.1 in let o : ℕ = 0 in cc) (λ l. let idle = goes_idle z.0 (beyond z.0 l) in let d = z.1 in let o : ℕ = 0 in cc) (cases_lt z.0 n)))
        (rest_or_goes s g o n beyond)
