-- A node that moves makes an exchange in its next turn, whatever that is for.
use Rattle.std.proofs.Common.{◌≡◌, ◌≢◌, ℕ, Bool, true, false, ◌&&◌, not, Option, Some, None, List, is_some, refl, sym, ap, subst, ◌∙◌, arith}
use Rattle.std.specs.Prelude.{if◌then◌else◌}
use Rattle.sci_words.specs.declared.tags.Kind.{Kind}
use Rattle.sci_words.specs.declared.tags.Tag.{Tag}
use Rattle.sci_words.specs.declared.memory.Mem.{Mem}
use Rattle.sci_words.specs.declared.memory.MemState.{MemState}
use Rattle.sci_words.specs.Tag.{tag_well_formed}
use Rattle.sci_core.specs.declared.lines.Line.{Line}
use Rattle.sci_core.specs.declared.pending.Pending.{Pending}
use Rattle.sci_core.specs.declared.events.Event.{Event}
use Rattle.sci_core.specs.Found.{names, is_fresh, is_dirty, is_settled_body, is_rolling, can_be_told, is_found}
use Rattle.sci_core.specs.Progress.{GivesWayRightly, IsMover}
use Rattle.sci_core.specs.Shape.{phase_of}
use Rattle.sci_core.specs.State.{State}
use Rattle.sci_core.specs.Step.{Finds, look_of, look_back}
use Rattle.sci_core.specs.Table.{has_row, row_of}
use Rattle.sci_core.specs.Table.Purging.{can_count}
use Rattle.sci_core.proofs.Going.Facts.{and_left, and_right, named}
use Rattle.sci_ops.specs.declared.goals.Goal.{Goal}
use Rattle.sci_ops.specs.declared.answers.Answer.{Answer}
use Rattle.sci_ops.specs.declared.answers.Turn.{Turn}
use Rattle.sci_ops.specs.declared.answers.End.{End}
use Rattle.sci_ops.specs.Alone.{on_line, TakesTurn}
use Rattle.sci_ops.specs.Operation.{Operation}
use Rattle.sci_ops.specs.Plan.{Plan, own, mem, tag, exchange, ends, ended, Takes}
use Rattle.sci_ops.specs.Rest.{read, due_turn, is_exchange, ComesTo}
use Rattle.sci_ops.specs.Table.{is_same, is_free, attach, may_adopt, is_behind, is_before, move, prepend, queueing_at, write, purging_at, return_home, leave, roll, turn_in, turn_again}
use Rattle.sci_ops.proofs.Ending.Inverse.{of_own}
use Rattle.sci_ops.proofs.Resting.Finding.{own_at, rolling_back}
use Rattle.sci_ops.proofs.Resting.Ranking.{both_true}
use Rattle.sci_ops.proofs.Resting.Reading.{turn_comes_to}

-- a word that an event may carry isn't held
free_of : (kinds : Kind → Bool) (t : Tag) → is_found kinds t ≡ true → is_free kinds t ≡ true
free_of kinds t h =
    let rest : (not t.held && tag_well_formed t) ≡ true = and_right (kinds t.kind) (not t.held && tag_well_formed t) h in
    both_true (kinds t.kind) (not t.held) (and_left (kinds t.kind) (not t.held && tag_well_formed t) h) (and_left (not t.held) (tag_well_formed t) rest)

with_test : (kinds : Kind → Bool) (t : Tag) (b : Bool) → (is_found kinds t && b) ≡ true → (is_free kinds t && b) ≡ true
with_test kinds t b h = both_true (is_free kinds t) b (free_of kinds t (and_left (is_found kinds t) b h)) (and_right (is_found kinds t) b h)

not_waiting : (end : End) (line : Option Line) → ended end line ≢ Turn.Waiting
not_waiting End.Seen (Some l) e = cc
not_waiting End.Seen None e = cc
not_waiting (End.Wrote w k) line e = cc
not_waiting End.Out line e = cc
not_waiting End.Spent line e = cc
not_waiting End.Moved line e = cc

-- a turn that comes to an exchange doesn't wait
pub comes_to_exchange : (plan : Plan) (r : Turn) → is_exchange plan ≡ true → ComesTo plan r → r ≢ Turn.Waiting
comes_to_exchange (exchange e end) r h c w = not_waiting end c.0 (sym c.1 ∙ w)
comes_to_exchange (ends turn) r h c w = cc
comes_to_exchange (own next) r h c w = cc
comes_to_exchange (mem next) r h c w = cc
comes_to_exchange (tag x next) r h c w = cc

module _ (n : ℕ) (me : ℕ) (s : State) where
  abbrev Goes : Plan → Type 0
  Goes plan = is_exchange (read s.memory s.tags me plan) ≡ true

  either : (b : Bool) (x y : Plan) → Goes x → Goes y → Goes (if b then x else y)
  either true x y f g = f
  either false x y f g = g

  at_first : (b : Bool) (x y : Plan) → b ≡ true → Goes x → Goes (if b then x else y)
  at_first true x y e f = f
  at_first false x y e f = absurd (cc)

  at_second : (b : Bool) (x y : Plan) → b ≡ false → Goes y → Goes (if b then x else y)
  at_second true x y e f = absurd (cc)
  at_second false x y e f = f

  prepend_goes : (goal : Goal) (st : MemState) → Goes (prepend goal st)
  prepend_goes goal MemState.Home = refl
  prepend_goes goal MemState.Fresh = refl
  prepend_goes goal MemState.Gone = refl

  not_lent : (f : Option ℕ) (e : Event) → has_row n me (Pending.Queueing f) e ≡ true → Finds s (row_of me (Pending.Queueing f) e).change → GivesWayRightly s.memory me (Pending.Queueing f) e → s.memory.lent ≡ false
  not_lent f (Event.Requeue h) a d w = w.0
  not_lent None Event.PrependValid a d w = ap (λ (m : Mem). m.lent) d
  not_lent (Some x) Event.PrependValid a d w = ap (λ (m : Mem). m.lent) d
  not_lent (Some x) Event.PrependGone a d w = ap (λ (m : Mem). m.lent) d
  not_lent None Event.PrependGone a d w = absurd (cc)
  not_lent None Event.HomeWrite a d w = ap (λ (m : Mem). m.lent) d
  not_lent (Some x) Event.HomeWrite a d w = absurd (cc)
  not_lent f _ a d w = absurd (grind (arith, a))

  queueing_goes : (goal : Goal) (f : Option ℕ) → s.memory.lent ≡ false → Goes (queueing_at goal f s.memory)
  queueing_goes goal f lent = at_second s.memory.lent _ _ lent (either (is_same s.memory.forw f) _ _ (prepend_goes goal s.memory.state) refl)

  attach_goes : (x : ℕ) (d : Bool) (c : Option Line) (e : Event) → has_row n me (Pending.InQueue (Some x) d c) e ≡ true → Finds s (row_of me (Pending.InQueue (Some x) d c) e).change → Goes (attach d (is_some c) (s.tags x))
  attach_goes x false (Some l) (Event.AttachFresh t) a m = at_first (is_free is_fresh (s.tags x)) _ _ (subst (λ (u : Tag). is_free is_fresh u ≡ true) (sym m) (free_of is_fresh t a)) refl
  attach_goes x true None (Event.AttachDirty t) a m = at_first (is_free is_dirty (s.tags x)) _ _ (subst (λ (u : Tag). is_free is_dirty u ≡ true) (sym m) (free_of is_dirty t a)) refl
  attach_goes x d c _ a m = absurd (grind (arith, a))

  write_goes : (goal : Goal) (l : Line) → Goes (write goal l)
  write_goes Goal.Load l = refl
  write_goes Goal.Evict l = refl
  write_goes (Goal.Write w) l = either (can_count l) _ _ refl refl

  purge_goes : (goal : Goal) (l : Line) (f : Option ℕ) (e : Event) → has_row n me (Pending.Purging l (Some f)) e ≡ true → Finds s (row_of me (Pending.Purging l (Some f)) e).change → Goes (purging_at goal me l f)
  purge_goes goal l None e a m = write_goes goal l
  purge_goes goal l (Some x) (Event.PurgeOne t) a m = at_first (is_free is_settled_body (s.tags x)) _ _ (subst (λ (u : Tag). is_free is_settled_body u ≡ true) (sym m) (free_of is_settled_body t a)) refl
  purge_goes goal l (Some x) (Event.Adopt t) a m = either (is_free is_settled_body (s.tags x)) _ _ refl (at_first (may_adopt me (s.tags x)) _ _ (subst (λ (u : Tag). may_adopt me u ≡ true) (sym m) (with_test is_rolling t (not (names me t.back)) a)) refl)
  purge_goes goal l (Some x) _ a m = absurd (grind (arith, a))

  return_goes : (d : Bool) → Goes (return_home d)
  return_goes true = refl
  return_goes false = refl

  leave_goes : (d : Bool) (l : Line) (f : Option ℕ) (b : Bool) (e : Event) → names me s.memory.forw ≡ b → has_row n me (Pending.Leaving d l (Some f)) e ≡ true → Finds s (row_of me (Pending.Leaving d l (Some f)) e).change → GivesWayRightly s.memory me (Pending.Leaving d l (Some f)) e
      → Goes (if b then leave me d f else move Event.Stay)
  leave_goes d l f false e q a m w = refl
  leave_goes d l None true e q a m w = return_goes d
  leave_goes d l (Some x) true (Event.Promote t) q a m w = at_first (is_behind me (s.tags x)) _ _ (subst (λ (u : Tag). is_behind me u ≡ true) (sym m) (with_test is_settled_body t (names me t.back) a)) refl
  leave_goes d l (Some x) true Event.Stay q a m w = absurd (w (named me s.memory.forw q))
  leave_goes d l (Some x) true _ q a m w = absurd (grind (arith, a))

  roll_goes : (told : Bool) (f : Option ℕ) (b : ℕ) (e : Event) → has_row n me (Pending.Rolling told (Some (f, b))) e ≡ true → Finds s (row_of me (Pending.Rolling told (Some (f, b))) e).change → Goes (roll me told f (Some b))
  roll_goes false (Some x) b (Event.TellSuccessor t) a m = at_first (is_behind me (s.tags x)) _ _ (subst (λ (u : Tag). is_behind me u ≡ true) (sym m) (with_test is_settled_body t (names me t.back) a)) refl
  roll_goes false None b (Event.TellPredecessor t) a m = at_first (is_before me (s.tags b)) _ _ (subst (λ (u : Tag). is_before me u ≡ true) (sym m) (with_test can_be_told t (names me t.forw) a)) refl
  roll_goes true f b (Event.TellPredecessor t) a m = at_first (is_before me (s.tags b)) _ _ (subst (λ (u : Tag). is_before me u ≡ true) (sym m) (with_test can_be_told t (names me t.forw) a)) refl
  roll_goes told f b _ a m = absurd (grind (arith, a))

  roll_goes_as : (told : Bool) (f b : Option ℕ) (seen : Option (Option ℕ × ℕ)) (e : Event) → b ≢ None → has_row n me (look_back told seen f b) e ≡ true → Finds s (row_of me (look_back told seen f b) e).change → Goes (roll me told f b)
  roll_goes_as told f None seen e c a m = absurd (c refl)
  roll_goes_as told f (Some b) seen e c a m = roll_goes told f b e a m

  module _ (fits : List ℕ → Type 0) (t : State) (r : Turn) where
    -- a node that rolls out has a back link
    has_back : (next : Tag → Plan) (told : Bool) (seen : Option (Option ℕ × ℕ)) → s.steps me ≡ Pending.Rolling told seen → Takes (on_line n fits me) (own next) s r t → (s.tags me).back ≢ None
    has_back next told seen is h =
        let look = (of_own n fits me h).lawful in
        rolling_back n fits s look.value look.before me (ap (λ (x : Tag). x.kind) (own_at n fits s look.value look.before me (Pending.Rolling told seen) is)) (ap phase_of is)

    going : (goal : Goal) (p : Pending) (e : Event) → s.steps me ≡ p → p ≢ Pending.Idle → has_row n me (look_of p (s.tags me)) e ≡ true → Finds s (row_of me (look_of p (s.tags me)) e).change → GivesWayRightly s.memory me (look_of p (s.tags me)) e
        → Takes (on_line n fits me) (turn_in goal me p) s r t → Goes (turn_in goal me p)
    going goal Pending.Idle e is b a m w h = absurd (b refl)
    going goal (Pending.Holding x l) e is b a m w h = refl
    going goal (Pending.Queueing f) e is b a m w h = queueing_goes goal f (not_lent f e a m w)
    going goal (Pending.Fetching f d l) e is b a m w h = refl
    going goal (Pending.InQueue None d c) e is b a m w h = refl
    going goal (Pending.InQueue (Some x) d c) e is b a m w h = attach_goes x d c e a m
    going goal (Pending.Copying f x l) e is b a m w h = refl
    going goal (Pending.Ready f d l) e is b a m w h = refl
    going goal (Pending.Converting f true) e is b a m w h = refl
    going goal (Pending.Converting f false) e is b a m w h = either (names me s.memory.forw) _ _ refl refl
    going goal (Pending.Purging l seen) e is b a m w h = purge_goes goal l (s.tags me).forw e a m
    going goal (Pending.Advancing l x y) e is b a m w h = refl
    going goal (Pending.Clearing l x y) e is b a m w h = refl
    going goal (Pending.Leaving d l seen) e is b a m w h = leave_goes d l (s.tags me).forw (names me s.memory.forw) e refl a m w
    going goal (Pending.Promoted d l x) e is b a m w h = either (names me s.memory.forw) _ _ refl refl
    going goal (Pending.WritingBack l) e is b a m w h = refl
    going goal (Pending.Parted f) e is b a m w h = refl
    going goal (Pending.Rolling told seen) e is b a m w h = roll_goes_as told (s.tags me).forw (s.tags me).back seen e (has_back _ told seen is h) a m
    going goal (Pending.Unlinked f x) e is b a m w h = refl

    -- a turn of a node that moves
    pub mover_goes : (op : Operation) → op.answer ≡ None → IsMover n s me → TakesTurn n fits me op s r t → is_exchange (due_turn op me s) ≡ true
    mover_goes op none m h =
        let taken : Takes (on_line n fits me) (turn_in op.goal me (s.steps me)) s r t = subst (λ (a : Option Answer). Takes (on_line n fits me) (turn_again op.goal a me (s.steps me)) s r t) none h in
        let goes : Goes (turn_in op.goal me (s.steps me)) = going op.goal (s.steps me) m.1.event refl m.0 m.1.allowed m.1.finds m.1.gives_way taken in
        subst (λ (a : Option Answer). Goes (turn_again op.goal a me (s.steps me))) (sym none) goes

    pub mover_turns : (op : Operation) → op.answer ≡ None → IsMover n s me → TakesTurn n fits me op s r t → (is_exchange (due_turn op me s) ≡ true) × (r ≢ Turn.Waiting)
    mover_turns op none m h =
        let goes = mover_goes op none m h in
        (goes, comes_to_exchange (due_turn op me s) r goes (turn_comes_to n fits me op s r t h))
