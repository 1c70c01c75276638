-- Whom an Idle node waits for.
use Rattle.std.proofs.Common.{◌≡◌, ◌≢◌, ◌⊎◌, ℕ, ◌<◌, ◌||◌, Bool, true, false, not, Option, Some, None, List, [], ◌∷◌, All, Contains, MatchOption, refl, sym, ap, subst, inl, inr, ⊎_elim, ◌∙◌, arith}
use Rattle.std.specs.Prelude.{if◌then◌else◌}
use Rattle.std.proofs.lemmas.Bool.{cases_Bool}
use Rattle.std.proofs.lemmas.Bool.Decides.{nat_tests}
use Rattle.std.proofs.lemmas.List.Elements.{All-contains}
use Rattle.sci_words.specs.declared.tags.Kind.{Kind}
use Rattle.sci_words.specs.declared.tags.Tag.{Tag}
use Rattle.sci_words.specs.declared.memory.Mem.{Mem}
use Rattle.sci_core.specs.declared.events.Event.{Event}
use Rattle.sci_core.specs.declared.lines.Line.{Line}
use Rattle.sci_core.specs.declared.pending.Pending.{Pending}
use Rattle.sci_core.specs.declared.stages.Stage.{Stage}
use Rattle.sci_core.specs.Chain.{IsPath, forward}
use Rattle.sci_core.specs.Copies.{IsCopying}
use Rattle.sci_core.specs.Found.{names}
use Rattle.sci_core.specs.Fronts.{IsFrontWord, IsBodyWord, IsWaiting, IsAdvancing}
use Rattle.sci_core.specs.Law.{is_front, is_body}
use Rattle.sci_core.specs.Outside.{IsClearing, IsPassing}
use Rattle.sci_core.specs.PendingStep.{IsOwnWord, is_at_rest}
use Rattle.sci_core.specs.Progress.{IsMover, Moves}
use Rattle.sci_core.specs.Run.{HasValue}
use Rattle.sci_core.specs.Shape.{Phase, phase_of}
use Rattle.sci_core.specs.Stage.{stage_of}
use Rattle.sci_core.specs.State.{State}
use Rattle.sci_core.specs.Waiting.{Waits}
use Rattle.sci_core.proofs.ReadBack.Elements.{contains_none, contains_head, contains_tail, contains_cases}
use Rattle.sci_ops.specs.declared.goals.Goal.{Goal}
use Rattle.sci_ops.specs.declared.goals.Write.{Write}
use Rattle.sci_ops.specs.Plan.{Plan}
use Rattle.sci_ops.specs.Rest.{read, due_turn}
use Rattle.sci_ops.specs.Table.{turn_of, begun, idle_as, idle_at, move, wait}
use Rattle.sci_ops.proofs.Ending.Rest.{contains_or_not, front_or_body}
use Rattle.sci_script.specs.Waiting.{is_wait, is_kept_out, keeps_waiting, IsAwaitedOn}

not_both : (b : Bool) → b ≡ true → b ≡ false → ⊥
not_both b h k = cc

-- what the table of turns says of Idle
module _ (m : Mem) (tags : ℕ → Tag) (me : ℕ) (t : Tag) where
  abbrev waits : Plan → Bool
  waits plan = is_wait (read m tags me plan)

  at_front : (b : Bool) (e : Event) → waits (if b then move e else wait) ≡ not b
  at_front true e = refl
  at_front false e = refl

  load_waits : (k : Kind) → waits (idle_as Goal.Load me t k) ≡ is_kept_out Goal.Load (names me m.forw) k
  load_waits Kind.Invalid = refl
  load_waits kind = refl

  write_waits : (w : Write) (k : Kind) → waits (idle_as (Goal.Write w) me t k) ≡ is_kept_out (Goal.Write w) (names me m.forw) k
  write_waits w Kind.Fresh = at_front (names me m.forw) (Event.Convert t)
  write_waits w kind = refl

  evict_waits : (k : Kind) → waits (idle_as Goal.Evict me t k) ≡ is_kept_out Goal.Evict (names me m.forw) k
  evict_waits Kind.Fresh = at_front (names me m.forw) (Event.Leave t)
  evict_waits Kind.Dirty = at_front (names me m.forw) (Event.Leave t)
  evict_waits kind = refl

  kind_waits : (goal : Goal) (k : Kind) → waits (idle_as goal me t k) ≡ is_kept_out goal (names me m.forw) k
  kind_waits Goal.Load k = load_waits k
  kind_waits (Goal.Write w) k = write_waits w k
  kind_waits Goal.Evict k = evict_waits k

  held_waits : (goal : Goal) (h : Bool) → waits (if h then wait else idle_as goal me t t.kind) ≡ (h || is_kept_out goal (names me m.forw) t.kind)
  held_waits goal true = refl
  held_waits goal false = kind_waits goal t.kind

-- the next turn of an Idle node waits exactly then
pub idle_waits : (s : State) (goal : Goal) (i : ℕ) → s.steps i ≡ Pending.Idle → is_wait (due_turn (begun goal) i s) ≡ ((s.tags i).held || is_kept_out goal (names i s.memory.forw) (s.tags i).kind)
idle_waits s goal i idle =
    ap (λ (p : Pending). is_wait (read s.memory s.tags i (turn_of (begun goal) i p))) idle ∙ held_waits s.memory s.tags i (s.tags i) goal (s.tags i).held

-- who keeps an entry waiting
keeps_busy : (i : ℕ) (p : Pending) → keeps_waiting i (stage_of p) ≡ true → p ≢ Pending.Idle
keeps_busy i p h e = not_both (keeps_waiting i (stage_of Pending.Idle)) (subst (λ (q : Pending). keeps_waiting i (stage_of q) ≡ true) e h) refl

same_node : (x y : ℕ) → Some x ≡ Some y → x ≡ y
same_node x y e = grind (arith, e)

named_by : (i : ℕ) (f : Option ℕ) → f ≡ Some i → names i f ≡ true
named_by i None e = absurd (cc)
named_by i (Some x) e = grind (arith, nat_tests, e)

copier_keeps : (i : ℕ) (p : Pending) → IsCopying p i → keeps_waiting i (stage_of p) ≡ true
copier_keeps i (Pending.Copying f w l) h = grind (arith, nat_tests, h)
copier_keeps i _ h = absurd h

advancer_keeps : (i : ℕ) (p : Pending) → IsAdvancing p i → keeps_waiting i (stage_of p) ≡ true
advancer_keeps i (Pending.Advancing l v w) h = grind (arith, nat_tests, h)
advancer_keeps i _ h = absurd h

clearer_keeps : (i : ℕ) (p : Pending) → IsClearing p i → keeps_waiting i (stage_of p) ≡ true
clearer_keeps i (Pending.Clearing l v w) h = grind (arith, nat_tests, h)
clearer_keeps i _ h = absurd h

newcomer_keeps : (i : ℕ) (t : Tag) (p : Pending) → t.forw ≡ Some i → IsOwnWord p t → IsWaiting t p → keeps_waiting i (stage_of p) ≡ true
newcomer_keeps i t (Pending.Fetching f d l) e o w = named_by i f (sym (ap (λ (x : Tag). x.forw) o) ∙ e)
newcomer_keeps i t (Pending.InQueue f d c) e o w = named_by i f (sym (ap (λ (x : Tag). x.forw) o.0) ∙ e)
newcomer_keeps i t (Pending.Promoted d l x) e o w = let same = same_node x i (sym (ap (λ (y : Tag). y.forw) o) ∙ e) in grind (arith, nat_tests, same)
newcomer_keeps i t _ e o w = absurd (grind (arith, w))

-- the kinds of tags that keep an Idle node from its turn
abbrev IsOut : Bool → Kind → Type 0
IsOut b k = (k ≡ Kind.Purged) ⊎ (((k ≡ Kind.Fresh) ⊎ (k ≡ Kind.Dirty)) × (b ≡ false))

load_out : (b : Bool) (k : Kind) → is_kept_out Goal.Load b k ≡ true → is_at_rest k ≡ true → IsOut b k
load_out b Kind.Purged h r = inl refl
load_out b _ h r = absurd (grind (arith, h, r))

write_out : (w : Write) (b : Bool) (k : Kind) → is_kept_out (Goal.Write w) b k ≡ true → is_at_rest k ≡ true → IsOut b k
write_out w false Kind.Fresh h r = inr (inl refl, refl)
write_out w true Kind.Fresh h r = absurd (grind (arith, h))
write_out w b Kind.Purged h r = inl refl
write_out w b _ h r = absurd (grind (arith, h, r))

evict_out : (b : Bool) (k : Kind) → is_kept_out Goal.Evict b k ≡ true → is_at_rest k ≡ true → IsOut b k
evict_out false Kind.Fresh h r = inr (inl refl, refl)
evict_out true Kind.Fresh h r = absurd (grind (arith, h))
evict_out false Kind.Dirty h r = inr (inr refl, refl)
evict_out true Kind.Dirty h r = absurd (grind (arith, h))
evict_out b Kind.Purged h r = inl refl
evict_out b _ h r = absurd (grind (arith, h, r))

kept_out_kind : (goal : Goal) (b : Bool) (k : Kind) → is_kept_out goal b k ≡ true → is_at_rest k ≡ true → IsOut b k
kept_out_kind Goal.Load b k h r = load_out b k h r
kept_out_kind (Goal.Write w) b k h r = write_out w b k h r
kept_out_kind Goal.Evict b k h r = evict_out b k h r

settled_front : (k : Kind) → (k ≡ Kind.Fresh) ⊎ (k ≡ Kind.Dirty) → is_body k ≡ true → ⊥
settled_front k e b = grind (arith, e, b)

settled_inside : (k : Kind) → (k ≡ Kind.Fresh) ⊎ (k ≡ Kind.Dirty) → k ≡ Kind.Invalid → ⊥
settled_inside k e b = grind (arith, e, b)

settled_unpurged : (k : Kind) → (k ≡ Kind.Fresh) ⊎ (k ≡ Kind.Dirty) → k ≡ Kind.Purged → ⊥
settled_unpurged k e b = grind (arith, e, b)

idle_passes : (t : Tag) (p : Pending) → p ≡ Pending.Idle → IsPassing t p → ⊥
idle_passes t p e h = let f : phase_of p ≡ Phase.Idle = ap phase_of e in grind (arith, f, h)

idle_holds : (p : Pending) → p ≡ Pending.Idle → phase_of p ≡ Phase.Holding → ⊥
idle_holds p e h = let f : phase_of p ≡ Phase.Idle = ap phase_of e in grind (arith, f, h)

invalid_unpurged : (k : Kind) → k ≡ Kind.Invalid → k ≡ Kind.Purged → ⊥
invalid_unpurged k e f = grind (arith, e, f)

-- who keeps an entry waiting is in the list
keeper_passes : (i : ℕ) (t : Tag) (p : Pending) → keeps_waiting i (stage_of p) ≡ true → IsPassing t p → ⊥
keeper_passes i t (Pending.Queueing f) h q = absurd (cc)
keeper_passes i t (Pending.WritingBack l) h q = absurd (cc)
keeper_passes i t (Pending.Parted f) h q = absurd (cc)
keeper_passes i t (Pending.Unlinked f b) h q = absurd (cc)
keeper_passes i t _ h q = grind (arith, q)

keeper_unpurged : (i : ℕ) (t : Tag) (p : Pending) → keeps_waiting i (stage_of p) ≡ true → IsOwnWord p t → t.kind ≡ Kind.Purged → ⊥
keeper_unpurged i t (Pending.Copying f w l) h o e = let k : t.kind ≡ Kind.Queued = ap (λ (x : Tag). x.kind) o in grind (arith, k, e)
keeper_unpurged i t (Pending.Advancing l v w) h o e = let k : t.kind ≡ Kind.Purging = ap (λ (x : Tag). x.kind) o in grind (arith, k, e)
keeper_unpurged i t (Pending.Clearing l v w) h o e = let k : t.kind ≡ Kind.Purging = ap (λ (x : Tag). x.kind) o in grind (arith, k, e)
keeper_unpurged i t (Pending.Fetching f d l) h o e = let k : t.kind ≡ Kind.Queued = ap (λ (x : Tag). x.kind) o in grind (arith, k, e)
keeper_unpurged i t (Pending.InQueue f d c) h o e = let k : t.kind ≡ Kind.Queued = ap (λ (x : Tag). x.kind) o.0 in grind (arith, k, e)
keeper_unpurged i t (Pending.Promoted d l x) h o e = let k : t.kind ≡ Kind.Leaving = ap (λ (x : Tag). x.kind) o in grind (arith, k, e)
keeper_unpurged i t _ h o e = absurd (cc)

idle_phase : (i : ℕ) (p : Pending) → keeps_waiting i (stage_of p) ≡ true → phase_of p ≡ Phase.Idle → ⊥
idle_phase i Pending.Idle h e = absurd (cc)
idle_phase i _ h e = grind (arith, e)

-- in front of an entry stands memory or another entry
path_previous : (forw : ℕ → Option ℕ) (xs : List ℕ) (f : Option ℕ) → IsPath f forw xs → (x : ℕ) → Contains xs x → (f ≡ Some x) ⊎ ((a : ℕ) × Contains xs a × (forw a ≡ Some x))
path_previous forw [] f p x c = absurd (contains_none x c)
path_previous forw (y ∷ ys) f p x c =
    ⊎_elim
    (λ e. inl (p.0 ∙ ap (λ (z : ℕ). Some z) (sym e)))
    (λ d. inr (⊎_elim (λ q. (y, contains_head y ys, q)) (λ q. (q.0, contains_tail y ys q.0 q.1, q.2)) (path_previous forw ys (forw y) p.1 x d)))
    (contains_cases y ys x c)

module _ (n : ℕ) (fits : List ℕ → Type 0) (s : State) (v : Line) (h : HasValue n fits s v) where
  abbrev IsKeeper : ℕ → ℕ → Type 0
  IsKeeper i y = keeps_waiting i (stage_of (s.steps y)) ≡ true

  keeper_inside : (i y : ℕ) → IsKeeper i y → Contains h.chain y
  keeper_inside i y k =
      ⊎_elim
      (λ c. c)
      (λ m. absurd (⊎_elim
      (λ a. idle_phase i (s.steps y) k a.1)
      (λ q. ⊎_elim (λ a. keeper_passes i (s.tags y) (s.steps y) k a) (λ a. keeper_unpurged i (s.tags y) (s.steps y) k (h.lawful.steps.own_word y) a.0) q)
      (h.lawful.outside y m)))
      (contains_or_not h.chain y)

  pub keeper_below : (i y : ℕ) → IsKeeper i y → y < n
  keeper_below i y k = All-contains (λ j. j < n) h.chain y h.lawful.chain.below (keeper_inside i y k)

  module _ (i : ℕ) (idle : s.steps i ≡ Pending.Idle) where
    purger : (s.tags i).kind ≡ Kind.Purged → (y : ℕ) × IsKeeper i y
    purger k =
        ⊎_elim
        (λ c. let q = (h.lawful.fronts.purged i c).0 k in (q.0, advancer_keeps i (s.steps q.0) q.3))
        (λ m. ⊎_elim
        (λ a. absurd (invalid_unpurged (s.tags i).kind a.0 k))
        (λ q. ⊎_elim (λ a. absurd (idle_passes (s.tags i) (s.steps i) idle a)) (λ a. (a.1.0, clearer_keeps i (s.steps a.1.0) a.1.1)) q)
        (h.lawful.outside i m))
        (contains_or_not h.chain i)

    settled_in : (((s.tags i).kind ≡ Kind.Fresh) ⊎ ((s.tags i).kind ≡ Kind.Dirty)) → Contains h.chain i
    settled_in k =
        ⊎_elim
        (λ c. c)
        (λ m. absurd (⊎_elim
        (λ a. settled_inside (s.tags i).kind k a.0)
        (λ q. ⊎_elim (λ a. idle_passes (s.tags i) (s.steps i) idle a) (λ a. settled_unpurged (s.tags i).kind k a.0) q)
        (h.lawful.outside i m)))
        (contains_or_not h.chain i)

    settled_word : (((s.tags i).kind ≡ Kind.Fresh) ⊎ ((s.tags i).kind ≡ Kind.Dirty)) → IsFrontWord (s.tags i)
    settled_word k = ⊎_elim (λ f. f) (λ (b : IsBodyWord (s.tags i)). absurd (settled_front (s.tags i).kind k b.0)) (front_or_body n fits s v h i (settled_in k))

    newcomer : (((s.tags i).kind ≡ Kind.Fresh) ⊎ ((s.tags i).kind ≡ Kind.Dirty)) → names i s.memory.forw ≡ false → (y : ℕ) × IsKeeper i y
    newcomer k out =
        ⊎_elim
        (λ e. absurd (not_both (names i s.memory.forw) (named_by i s.memory.forw e) out))
        (λ q. (q.0, newcomer_keeps i (s.tags q.0) (s.steps q.0) q.2 (h.lawful.steps.own_word q.0) (h.lawful.fronts.waiting q.0 (q.1, (i, q.2, settled_word k)))))
        (path_previous (forward s) h.chain s.memory.forw h.lawful.chain.path i (settled_in k))

    holder : (s.tags i).held ≡ true → (y : ℕ) × IsKeeper i y
    holder e =
        ⊎_elim
        (λ q. absurd (idle_holds (s.steps i) idle q))
        (λ q. (q.0, copier_keeps i (s.steps q.0) q.1))
        ((h.lawful.slots.held i).0 e)

    keeper_of : (goal : Goal) → is_kept_out goal (names i s.memory.forw) (s.tags i).kind ≡ true → (y : ℕ) × IsKeeper i y
    keeper_of goal e =
        let rests : is_at_rest (s.tags i).kind ≡ true = subst (λ (p : Pending). IsOwnWord p (s.tags i)) idle (h.lawful.steps.own_word i) in
        ⊎_elim purger (λ q. newcomer q.0 q.1) (kept_out_kind goal (names i s.memory.forw) (s.tags i).kind e rests)

    -- where an Idle node's turn waits, somebody keeps it waiting
    there_is : (goal : Goal) (b : Bool) → (s.tags i).held ≡ b → (b || is_kept_out goal (names i s.memory.forw) (s.tags i).kind) ≡ true → (y : ℕ) × IsKeeper i y
    there_is goal true is e = holder is
    there_is goal false is e = keeper_of goal e

    pub waits_for_one : (goal : Goal) (r : Option ℕ) → ((s.tags i).held || is_kept_out goal (names i s.memory.forw) (s.tags i).kind) ≡ true
        → MatchOption r ((y : ℕ) → y < n → keeps_waiting i (stage_of (s.steps y)) ≡ false) (λ y. (y < n) × IsKeeper i y) → IsAwaitedOn n s goal i r
    waits_for_one goal None e none =
        let w = there_is goal (s.tags i).held refl e in
        absurd (not_both (keeps_waiting i (stage_of (s.steps w.0))) w.1 (none w.0 (keeper_below i w.0 w.1)))
    waits_for_one goal (Some y) e is = (is.0, keeps_busy i (s.steps y) is.1, inr ((idle, idle_waits s goal i idle ∙ e), is.1))

-- an Idle node whose turn doesn't wait
pub waits_for_none : (n : ℕ) (s : State) (goal : Goal) (i : ℕ) → s.steps i ≡ Pending.Idle → ((s.tags i).held || is_kept_out goal (names i s.memory.forw) (s.tags i).kind) ≡ false → IsAwaitedOn n s goal i None
waits_for_none n s goal i idle e = inr (idle, idle_waits s goal i idle ∙ e)

-- a node under way
pub under_way : (n : ℕ) (s : State) (goal : Goal) (i : ℕ) → s.steps i ≢ Pending.Idle → (r : Option ℕ)
    → MatchOption r ((s.steps i ≡ Pending.Idle) ⊎ Moves n s i) (λ y. (y < n) × (s.steps y ≢ Pending.Idle) × Waits n s i y) → IsAwaitedOn n s goal i r
under_way n s goal i busy None h = ⊎_elim (λ e. absurd (busy e)) (λ m. inl (busy, m)) h
under_way n s goal i busy (Some y) h = (h.0, h.1, inl h.2)
