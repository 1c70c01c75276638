-- A turn of a node under way that doesn't move waits, and leaves all as it is but for a look.
use Rattle.std.proofs.Common.{◌≡◌, ◌≢◌, ◌⊎◌, ℕ, Bool, true, false, cond, eqb, Option, Some, None, List, is_some, refl, sym, ap, subst, inl, inr, ⊎_elim, ◌∙◌}
use Rattle.std.specs.Prelude.{if◌then◌else◌}
use mathlib.Core.Path.{fun_ext}
use Rattle.sci_words.specs.declared.tags.Tag.{Tag}
use Rattle.sci_words.specs.declared.memory.MemState.{MemState}
use Rattle.sci_core.specs.declared.lines.Line.{Line}
use Rattle.sci_core.specs.declared.pending.Pending.{Pending}
use Rattle.sci_core.specs.declared.events.Event.{Event}
use Rattle.sci_core.specs.declared.rows.Change.{Change}
use Rattle.sci_core.specs.Found.{names, is_settled_body}
use Rattle.sci_core.specs.Progress.{GivesWayRightly, Moves}
use Rattle.sci_core.specs.State.{State, update}
use Rattle.sci_core.specs.Step.{Finds, look_of, look_back, looked}
use Rattle.sci_core.specs.Table.{has_row, row_of}
use Rattle.sci_core.specs.Table.Purging.{can_count}
use Rattle.sci_core.proofs.Going.Facts.{not_named}
use Rattle.sci_core.proofs.Looking.{update_same}
use Rattle.sci_ops.specs.declared.goals.Goal.{Goal}
use Rattle.sci_ops.specs.declared.answers.Answer.{Answer}
use Rattle.sci_ops.specs.declared.answers.Turn.{Turn}
use Rattle.sci_ops.specs.Alone.{on_line, TakesTurn}
use Rattle.sci_ops.specs.Operation.{Operation}
use Rattle.sci_ops.specs.Plan.{Plan, own, mem, tag, exchange, ends, Takes}
use Rattle.sci_ops.specs.Rest.{read}
use Rattle.sci_ops.specs.Table.{is_same, is_free, move, if_front, may_attach_fresh, may_attach_dirty, attach, may_adopt, is_behind, is_before, prepend, queueing_at, write, purging_at, leave, roll_on, roll, turn_in, turn_again}
use Rattle.sci_ops.proofs.Ending.Counting.{updated}
use Rattle.sci_ops.proofs.Resting.Reading.{other_link, reach, IsDue, Came, came, due_in, done}

back_twice : (told : Bool) (seen : Option (Option ℕ × ℕ)) (t : Tag) (b : Option ℕ) → t.back ≡ b → look_of (look_back told seen t.forw b) t ≡ look_back told seen t.forw b
back_twice told seen t None e = ap (λ (x : Option ℕ). look_back told seen t.forw x) e
back_twice told seen t (Some b) e = ap (λ (x : Option ℕ). look_back told (Some (t.forw, b)) t.forw x) e

look_twice : (p : Pending) (t : Tag) → look_of (look_of p t) t ≡ look_of p t
look_twice (Pending.Rolling told seen) t = back_twice told seen t t.back refl
look_twice p t = refl

over : {A : Type 0} (b : Bool) (x y z : A) → y ≡ x → cond b y (cond b x z) ≡ cond b x z
over true x y z e = e
over false x y z e = refl

-- one look is as good as two
pub looked_twice : (s : State) (me : ℕ) → looked (looked s me) me ≡ looked s me
looked_twice s me =
    let once = look_of (s.steps me) (s.tags me) in
    let twice : look_of (update s.steps me once me) (s.tags me) ≡ once = ap (λ (p : Pending). look_of p (s.tags me)) (updated s.steps me once) ∙ look_twice (s.steps me) (s.tags me) in
    let same : ◌≡◌ {A = ℕ → Pending} (update (update s.steps me once) me (look_of (update s.steps me once me) (s.tags me))) (update s.steps me once) =
    fun_ext (λ i. over (eqb i me) once (look_of (update s.steps me once me) (s.tags me)) (s.steps i) twice) in
    ap (λ (f : ℕ → Pending). record s { steps = f }) same

found_still : (s : State) (me : ℕ) (c : Change) → Finds (looked s me) c → Finds s c
found_still s me (Change.OfMemory before after) h = h
found_still s me (Change.OfTag x before after) h = h

module _ (n : ℕ) (fits : List ℕ → Type 0) (me : ℕ) (s : State) where
  -- an exchange gives way rightly, and where there is none the turn waits
  abbrev IsRight : Pending → Plan → Type 0
  IsRight p (exchange e end) = GivesWayRightly s.memory me p e
  IsRight p (ends turn) = turn ≡ Turn.Waiting
  IsRight p plan = Unit {0}

  abbrev Right : Pending → Plan → Type 0
  Right p plan = IsRight p (read s.memory s.tags me plan)

  either : (p : Pending) (b : Bool) (x y : Plan) → (b ≡ true → Right p x) → (b ≡ false → Right p y) → Right p (if b then x else y)
  either p true x y f g = f refl
  either p false x y f g = g refl

  prepend_right : (p : Pending) (goal : Goal) (st : MemState) → Right p (prepend goal st)
  prepend_right p (Goal.Write w) MemState.Home = tt
  prepend_right p goal MemState.Home = tt
  prepend_right p goal MemState.Fresh = tt
  prepend_right p goal MemState.Gone = tt

  queueing_right : (goal : Goal) (f : Option ℕ) → Right (Pending.Queueing f) (queueing_at goal f s.memory)
  queueing_right goal f =
      either (Pending.Queueing f) s.memory.lent _ _ (λ b. refl)
      (λ lent. either (Pending.Queueing f) (is_same s.memory.forw f) _ _
      (λ b. prepend_right (Pending.Queueing f) goal s.memory.state)
      (λ b. (lent, refl, λ e. other_link s.memory.forw f b (sym e))))

  attach_right : (p : Pending) (d : Bool) (c : Bool) (t : Tag) → Right p (attach d c t)
  attach_right p d c t = either p (may_attach_fresh d c t) _ _ (λ b. tt) (λ b. either p (may_attach_dirty d c t) _ _ (λ e. tt) (λ e. refl))

  write_right : (p : Pending) (goal : Goal) (l : Line) → Right p (write goal l)
  write_right p Goal.Load l = tt
  write_right p Goal.Evict l = tt
  write_right p (Goal.Write w) l = either p (can_count l) _ _ (λ b. tt) (λ b. tt)

  purging_right : (p : Pending) (goal : Goal) (l : Line) (f : Option ℕ) → Right p (purging_at goal me l f)
  purging_right p goal l None = write_right p goal l
  purging_right p goal l (Some x) = either p (is_free is_settled_body (s.tags x)) _ _ (λ b. tt) (λ b. either p (may_adopt me (s.tags x)) _ _ (λ e. tt) (λ e. refl))

  leave_right : (p : Pending) (d : Bool) (f : Option ℕ) → Right p (leave me d f)
  leave_right p true None = tt
  leave_right p false None = tt
  leave_right p d (Some x) = either p (is_behind me (s.tags x)) _ _ (λ b. tt) (λ b. refl)

  roll_on_right : (p : Pending) (b : Option ℕ) → Right p (roll_on me b)
  roll_on_right p (Some x) = either p (is_before me (s.tags x)) _ _ (λ e. tt) (λ e. refl)
  roll_on_right p None = refl

  roll_right : (p : Pending) (told : Bool) (f b : Option ℕ) → Right p (roll me told f b)
  roll_right p false (Some x) b = either p (is_behind me (s.tags x)) _ _ (λ e. tt) (λ e. refl)
  roll_right p false None b = roll_on_right p b
  roll_right p true f b = roll_on_right p b

  -- the table, but for Idle
  right_in : (goal : Goal) (p : Pending) → p ≢ Pending.Idle → Right (look_of p (s.tags me)) (turn_in goal me p)
  right_in goal Pending.Idle b = absurd (b refl)
  right_in goal (Pending.Holding x l) b = tt
  right_in goal (Pending.Queueing f) b = queueing_right goal f
  right_in goal (Pending.Fetching f d l) b = tt
  right_in goal (Pending.InQueue None d c) b = tt
  right_in goal (Pending.InQueue (Some x) d c) b = attach_right (Pending.InQueue (Some x) d c) d (is_some c) (s.tags x)
  right_in goal (Pending.Copying f x l) b = tt
  right_in goal (Pending.Ready f d l) b = tt
  right_in goal (Pending.Converting f true) b = tt
  right_in goal (Pending.Converting f false) b = either (Pending.Converting f false) (names me s.memory.forw) _ _ (λ e. tt) (λ e. not_named me s.memory.forw e)
  right_in goal (Pending.Purging l seen) b = purging_right (Pending.Purging l (Some (s.tags me).forw)) goal l (s.tags me).forw
  right_in goal (Pending.Advancing l x y) b = tt
  right_in goal (Pending.Clearing l x y) b = tt
  right_in goal (Pending.Leaving d l seen) b = either (Pending.Leaving d l (Some (s.tags me).forw)) (names me s.memory.forw) _ _ (λ e. leave_right (Pending.Leaving d l (Some (s.tags me).forw)) d (s.tags me).forw) (λ e. not_named me s.memory.forw e)
  right_in goal (Pending.Promoted d l x) b = either (Pending.Promoted d l x) (names me s.memory.forw) _ _ (λ e. tt) (λ e. not_named me s.memory.forw e)
  right_in goal (Pending.WritingBack l) b = tt
  right_in goal (Pending.Parted f) b = tt
  right_in goal (Pending.Rolling told seen) b = roll_right (look_back told seen (s.tags me).forw (s.tags me).back) told (s.tags me).forw (s.tags me).back
  right_in goal (Pending.Unlinked f x) b = tt

  -- a plan's loads leave the line as it is, but for a look
  looks : (plan : Plan) (u : State) → (reach n fits me u plan ≡ u) ⊎ (reach n fits me u plan ≡ looked u me)
  looks (own next) u = inr (⊎_elim (λ e. e) (λ e. e ∙ looked_twice u me) (looks (next (u.tags me)) (looked u me)))
  looks (mem next) u = looks (next u.memory) u
  looks (tag x next) u = looks (next (u.tags x)) u
  looks (exchange e end) u = inl refl
  looks (ends turn) u = inl refl

  -- where the plan looks, or a look shows nothing new
  by_look : (next : Tag → Plan) → reach n fits me s (own next) ≡ looked s me
  by_look next = ⊎_elim (λ e. e) (λ e. e ∙ looked_twice s me) (looks (next (s.tags me)) (looked s me))

  by_none : (plan : Plan) → look_of (s.steps me) (s.tags me) ≡ s.steps me → reach n fits me s plan ≡ looked s me
  by_none plan e =
      let same : ◌≡◌ {A = ℕ → Pending} s.steps (update s.steps me (look_of (s.steps me) (s.tags me))) = update_same s.steps me (look_of (s.steps me) (s.tags me)) (sym e) in
      let here : s ≡ looked s me = ap (λ (f : ℕ → Pending). record s { steps = f }) same in
      ⊎_elim (λ a. a ∙ here) (λ a. a) (looks plan s)

  reached : (goal : Goal) (p : Pending) → s.steps me ≡ p → reach n fits me s (turn_in goal me p) ≡ looked s me
  reached goal (Pending.Purging l seen) is = by_look (λ t. purging_at goal me l t.forw)
  reached goal (Pending.Leaving d l seen) is = by_look (λ t. if_front me (leave me d t.forw) (move Event.Stay))
  reached goal (Pending.Rolling told seen) is = by_look (λ t. roll me told t.forw t.back)
  reached goal p is = by_none (turn_in goal me p) (subst (λ (q : Pending). look_of q (s.tags me) ≡ q) (sym is) refl)

  module _ (t : State) (r : Turn) (stuck : Moves n s me → ⊥) where
    waits : (plan : Plan) (u : State) → u ≡ looked s me → IsDue n fits me plan u → IsRight (look_of (s.steps me) (s.tags me)) plan → Came n fits me plan u r t → (r ≡ Turn.Waiting) × (t ≡ looked s me)
    waits (exchange e end) u is due right h =
        let p : Pending = look_of (s.steps me) (s.tags me) in
        let made = (done n fits me e end u r t due h).makes in
        let at : u.steps me ≡ p = ap (λ (x : State). x.steps me) is ∙ updated s.steps me p in
        let finds : Finds u (row_of me p e).change = subst (λ (q : Pending). Finds u (row_of me q e).change) at made.finds in
        let here : Finds (looked s me) (row_of me p e).change = subst (λ (x : State). Finds x (row_of me p e).change) is finds in
        absurd (stuck record { event = e; allowed = subst (λ (q : Pending). has_row n me q e ≡ true) at made.allowed; finds = found_still s me (row_of me p e).change here; gives_way = right })
    waits (ends turn) u is due right h = (h.0 ∙ right, h.1 ∙ is)
    waits (own next) u is due right h = absurd h
    waits (mem next) u is due right h = absurd h
    waits (tag x next) u is due right h = absurd h

    -- a turn of a node that doesn't move
    pub stuck_waits : (op : Operation) → op.answer ≡ None → s.steps me ≢ Pending.Idle → TakesTurn n fits me op s r t → (r ≡ Turn.Waiting) × (t ≡ looked s me)
    stuck_waits op none busy h =
        let plan : Plan = turn_in op.goal me (s.steps me) in
        let taken : Takes (on_line n fits me) plan s r t = subst (λ (a : Option Answer). Takes (on_line n fits me) (turn_again op.goal a me (s.steps me)) s r t) none h in
        waits (read s.memory s.tags me plan) (reach n fits me s plan) (reached op.goal (s.steps me) refl) (due_in n fits me op.goal s (s.steps me) refl) (right_in op.goal (s.steps me) busy) (came n fits me plan s r t taken)
