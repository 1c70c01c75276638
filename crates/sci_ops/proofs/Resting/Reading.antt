-- A turn that nobody comes between comes to what its plan is on the line as it stands: its exchange finds its word.
use Rattle.std.proofs.Common.{◌≡◌, ◌≢◌, ℕ, Bool, true, false, Option, Some, None, Ok, List, refl, sym, ap, subst, arith}
use Rattle.std.specs.Prelude.{◌+◌, is_some, if◌then◌else◌}
use Rattle.std.proofs.lemmas.Bool.Decides.{nat_tests}
use Rattle.sci_words.specs.declared.tags.Kind.{Kind}
use Rattle.sci_words.specs.declared.tags.Tag.{Tag}
use Rattle.sci_words.specs.declared.memory.MemState.{MemState}
use Rattle.sci_core.specs.declared.lines.Line.{Line}
use Rattle.sci_core.specs.declared.pending.Pending.{Pending}
use Rattle.sci_core.specs.declared.events.Event.{Event}
use Rattle.sci_core.specs.declared.outcomes.Outcome.{Outcome}
use Rattle.sci_core.specs.Answers.{Answers, Makes}
use Rattle.sci_core.specs.Facts.{seen_forward}
use Rattle.sci_core.specs.Found.{names, is_settled_body}
use Rattle.sci_core.specs.PendingStep.{IsOwnWord}
use Rattle.sci_core.specs.Row.{purging_word}
use Rattle.sci_core.specs.Run.{HasValue, KeepsLawful}
use Rattle.sci_core.specs.Shape.{phase_of, flag_of, kept_of}
use Rattle.sci_core.specs.State.{State, word, memory_word}
use Rattle.sci_core.specs.Step.{Finds, is_look, look_of, looked}
use Rattle.sci_core.specs.Table.{row_of}
use Rattle.sci_core.specs.Table.Purging.{can_count}
use Rattle.sci_core.specs.WellFormed.{FindsWord}
use Rattle.sci_core.proofs.Going.Facts.{named}
use Rattle.sci_ops.specs.declared.goals.Goal.{Goal}
use Rattle.sci_ops.specs.declared.answers.Answer.{Answer}
use Rattle.sci_ops.specs.declared.answers.Turn.{Turn}
use Rattle.sci_ops.specs.declared.answers.End.{End}
use Rattle.sci_ops.specs.Alone.{on_line, TakesTurn}
use Rattle.sci_ops.specs.Change.{change}
use Rattle.sci_ops.specs.Operation.{Operation}
use Rattle.sci_ops.specs.Plan.{Plan, own, mem, tag, exchange, ends, ended, turn_after, Takes}
use Rattle.sci_ops.specs.Rest.{read, due_turn, ComesTo}
use Rattle.sci_ops.specs.Table.{is_same, is_free, may_attach_fresh, may_attach_dirty, attach, may_adopt, is_behind, is_before, idle_as, prepend, queueing_at, write, purging_at, return_home, leave, roll_on, roll, seen_end, out_end, turn_in, turn_again}
use Rattle.sci_ops.proofs.Ending.Inverse.{Tried, as_made, of_own, of_mem, of_tag, of_end, of_exchange}
use Rattle.sci_ops.proofs.Ending.Moving.{looked_step}
use Rattle.sci_ops.proofs.Ending.Rest.{memory_is}
use Rattle.sci_ops.proofs.Ending.Starting.{invalid_word}
use Rattle.sci_ops.proofs.Resting.Finding.{is_heading, own_at, kept_at, lent_at, home_names_nobody, nobody_is_home, head_word, cleared, rolling_back}

pub same_link : (a b : Option ℕ) → is_same a b ≡ true → a ≡ b
same_link None None h = refl
same_link (Some x) (Some y) h = let e : x ≡ y = grind (arith, nat_tests, h) in ap (λ (z : ℕ). Some z) e
same_link None (Some y) h = absurd (cc)
same_link (Some x) None h = absurd (cc)

pub other_link : (a b : Option ℕ) → is_same a b ≡ false → a ≢ b
other_link None None h e = absurd (cc)
other_link (Some x) (Some y) h e = let d : x ≡ y = cc in grind (arith, nat_tests, h, d)
other_link None (Some y) h e = absurd (cc)
other_link (Some x) None h e = absurd (cc)

-- what is known of a newcomer that notes another head, and of a purger that adopts
abbrev pub Renews : Option ℕ → Option ℕ → Pending → Event → Type 0
Renews head forw p (Event.Requeue g) = (g ≡ head) × (kept_of p ≢ head)
Renews head forw p (Event.Adopt t) = seen_forward p ≡ Some forw
Renews head forw p e = Unit {0}

module _ (n : ℕ) (fits : List ℕ → Type 0) (me : ℕ) where
  -- the line once the plan's loads are made
  abbrev pub reach : State → Plan → State
  reach s (own next) = reach (looked s me) (next (s.tags me))
  reach s (mem next) = reach s (next s.memory)
  reach s (tag x next) = reach s (next (s.tags x))
  reach s (exchange e end) = s
  reach s (ends turn) = s

  -- what was done there
  abbrev pub Came : Plan → State → Turn → State → Type 0
  Came (exchange e end) u r t = Tried n fits me e end u r t
  Came (ends turn) u r t = (r ≡ turn) × (t ≡ u)
  Came plan u r t = ⊥

  pub came : (plan : Plan) (s : State) (r : Turn) (t : State) → Takes (on_line n fits me) plan s r t → Came (read s.memory s.tags me plan) (reach s plan) r t
  came (own next) s r t h = came (next (s.tags me)) (looked s me) r t (of_own n fits me h).rest
  came (mem next) s r t h = came (next s.memory) s r t (of_mem n fits me h)
  came (tag x next) s r t h = came (next (s.tags x)) s r t (of_tag n fits me h)
  came (exchange e end) s r t h = of_exchange n fits me h
  came (ends turn) s r t h = of_end n fits me h

  -- in this step the exchange finds its word, where the line is lawful
  abbrev pub DueIn : State → Pending → Event → Type 0
  DueIn u p e = (is_look e ≡ false) × Renews u.memory.forw (u.tags me).forw p e × ((v : Line) → HasValue n fits u v → FindsWord n u (row_of me p e).change → Finds u (row_of me p e).change)

  abbrev pub IsDue : Plan → State → Type 0
  IsDue (exchange e end) u = DueIn u (u.steps me) e
  IsDue plan u = Unit {0}

  abbrev pub Due : State → Plan → Type 0
  Due s plan = IsDue (read s.memory s.tags me plan) (reach s plan)

  at : (u : State) (p : Pending) (e : Event) (end : End) → u.steps me ≡ p → DueIn u p e → Due u (exchange e end)
  at u p e end is h = subst (λ (q : Pending). DueIn u q e) (sym is) h

  either : (s : State) (b : Bool) (x y : Plan) → (b ≡ true → Due s x) → (b ≡ false → Due s y) → Due s (if b then x else y)
  either s true x y f g = f refl
  either s false x y f g = g refl

  -- an exchange on the own word, of this kind and with no other premise
  own_word : (u : State) (p : Pending) (e : Event) (end : End) → u.steps me ≡ p → is_look e ≡ false → Renews u.memory.forw (u.tags me).forw p e → (IsOwnWord p (u.tags me) → Finds u (row_of me p e).change) → Due u (exchange e end)
  own_word u p e end is look more h = at u p e end is (look, more, λ v o w. h (own_at n fits u v o me p is))

  idle_due : (goal : Goal) (u : State) (k : Kind) → u.steps me ≡ Pending.Idle → (u.tags me).held ≡ false → (u.tags me).kind ≡ k → Due u (idle_as goal me (u.tags me) k)
  idle_due Goal.Evict u Kind.Invalid is free e = tt
  idle_due Goal.Load u Kind.Invalid is free e = at u Pending.Idle (Event.Queue u.memory.forw) End.Moved is (refl, tt, λ v o w. invalid_word (u.tags me) e free w.0)
  idle_due (Goal.Write w) u Kind.Invalid is free e = at u Pending.Idle (Event.Queue u.memory.forw) End.Moved is (refl, tt, λ v o w. invalid_word (u.tags me) e free w.0)
  idle_due Goal.Load u Kind.Fresh is free e = at u Pending.Idle (Event.Hold (u.tags me)) End.Moved is (refl, tt, λ v o w. refl)
  idle_due (Goal.Write w) u Kind.Fresh is free e = either u (names me u.memory.forw) _ _ (λ b. at u Pending.Idle (Event.Convert (u.tags me)) End.Moved is (refl, tt, λ v o w. refl)) (λ b. tt)
  idle_due Goal.Evict u Kind.Fresh is free e = either u (names me u.memory.forw) _ _ (λ b. at u Pending.Idle (Event.Leave (u.tags me)) End.Moved is (refl, tt, λ v o w. refl)) (λ b. tt)
  idle_due Goal.Load u Kind.Dirty is free e = at u Pending.Idle (Event.Hold (u.tags me)) End.Moved is (refl, tt, λ v o w. refl)
  idle_due (Goal.Write w) u Kind.Dirty is free e = at u Pending.Idle (Event.BeginPurge (u.tags me)) End.Moved is (refl, tt, λ v o w. refl)
  idle_due Goal.Evict u Kind.Dirty is free e = either u (names me u.memory.forw) _ _ (λ b. at u Pending.Idle (Event.Leave (u.tags me)) End.Moved is (refl, tt, λ v o w. refl)) (λ b. tt)
  idle_due Goal.Load u Kind.Valid is free e = at u Pending.Idle (Event.Hold (u.tags me)) End.Moved is (refl, tt, λ v o w. refl)
  idle_due (Goal.Write w) u Kind.Valid is free e = at u Pending.Idle (Event.Roll (u.tags me)) End.Moved is (refl, tt, λ v o w. refl)
  idle_due Goal.Evict u Kind.Valid is free e = at u Pending.Idle (Event.Roll (u.tags me)) End.Moved is (refl, tt, λ v o w. refl)
  idle_due goal u Kind.Queued is free e = tt
  idle_due goal u Kind.Convert is free e = tt
  idle_due goal u Kind.Purging is free e = tt
  idle_due goal u Kind.Leaving is free e = tt
  idle_due goal u Kind.Roll is free e = tt
  idle_due goal u Kind.Purged is free e = tt

  at_home : (s : State) → s.memory.state ≡ MemState.Home → s.memory.lent ≡ false → (v : Line) → HasValue n fits s v → s.memory ≡ memory_word MemState.Home None
  at_home s st lent v o = memory_is s.memory MemState.Home None st lent (home_names_nobody n fits s v o st)

  some_none : (x : ℕ) (f : Option ℕ) → f ≡ Some x → f ≡ None → ⊥
  some_none x f a b = cc

  states_apart : (m : MemState) → m ≡ MemState.Home → (m ≡ MemState.Fresh → ⊥) × (m ≡ MemState.Gone → ⊥)
  states_apart m h = ((λ e. cc), (λ e. cc))

  prepend_due : (goal : Goal) (s : State) (f : Option ℕ) (st : MemState) → s.steps me ≡ Pending.Queueing f → s.memory.state ≡ st → s.memory.lent ≡ false → s.memory.forw ≡ f → Due s (prepend goal st)
  prepend_due (Goal.Write w) s None MemState.Home is st lent e = at s (Pending.Queueing None) Event.HomeWrite End.Moved is (refl, tt, λ v o w. at_home s st lent v o)
  prepend_due (Goal.Write w) s (Some x) MemState.Home is st lent e = at s (Pending.Queueing (Some x)) Event.HomeWrite End.Moved is (refl, tt, λ v o w. at_home s st lent v o)
  prepend_due Goal.Load s None MemState.Home is st lent e = at s (Pending.Queueing None) Event.PrependValid End.Moved is (refl, tt, λ v o w. at_home s st lent v o)
  prepend_due Goal.Load s (Some x) MemState.Home is st lent e = at s (Pending.Queueing (Some x)) Event.PrependValid End.Moved is (refl, tt, λ v o w. absurd (some_none x s.memory.forw e (home_names_nobody n fits s v o st)))
  prepend_due Goal.Evict s None MemState.Home is st lent e = at s (Pending.Queueing None) Event.PrependValid End.Moved is (refl, tt, λ v o w. at_home s st lent v o)
  prepend_due Goal.Evict s (Some x) MemState.Home is st lent e = at s (Pending.Queueing (Some x)) Event.PrependValid End.Moved is (refl, tt, λ v o w. absurd (some_none x s.memory.forw e (home_names_nobody n fits s v o st)))
  prepend_due goal s None MemState.Fresh is st lent e = at s (Pending.Queueing None) Event.PrependValid End.Moved is (refl, tt, λ v o w. absurd ((states_apart s.memory.state (nobody_is_home n fits s v o e)).0 st))
  prepend_due goal s (Some x) MemState.Fresh is st lent e = at s (Pending.Queueing (Some x)) Event.PrependValid End.Moved is (refl, tt, λ v o w. memory_is s.memory MemState.Fresh (Some x) st lent e)
  prepend_due goal s None MemState.Gone is st lent e = at s (Pending.Queueing None) Event.PrependGone End.Moved is (refl, tt, λ v o w. absurd ((states_apart s.memory.state (nobody_is_home n fits s v o e)).1 st))
  prepend_due goal s (Some x) MemState.Gone is st lent e = at s (Pending.Queueing (Some x)) Event.PrependGone End.Moved is (refl, tt, λ v o w. memory_is s.memory MemState.Gone (Some x) st lent e)

  queueing_due : (goal : Goal) (s : State) (f : Option ℕ) → s.steps me ≡ Pending.Queueing f → Due s (queueing_at goal f s.memory)
  queueing_due goal s f is =
      either s s.memory.lent _ _ (λ b. tt)
      (λ lent. either s (is_same s.memory.forw f) _ _
      (λ b. prepend_due goal s f s.memory.state is refl lent (same_link s.memory.forw f b))
      (λ b. own_word s (Pending.Queueing f) (Event.Requeue s.memory.forw) End.Moved is refl (refl, λ e. other_link s.memory.forw f b (sym e)) (λ w. w)))

  settle_due : (goal : Goal) (s : State) (d : Bool) (c : Option Line) (end : End) → s.steps me ≡ Pending.InQueue None d c → Due s (exchange Event.Settle end)
  settle_due goal s d (Some l) end is = own_word s (Pending.InQueue None d (Some l)) Event.Settle end is refl tt (λ w. w.0)
  settle_due goal s d None end is = own_word s (Pending.InQueue None d None) Event.Settle end is refl tt (λ w. absurd (w.1 refl refl))

  attach_due : (s : State) (x : ℕ) (d : Bool) (c : Option Line) → s.steps me ≡ Pending.InQueue (Some x) d c → Due s (attach d (is_some c) (s.tags x))
  attach_due s x false (Some l) is = either s (may_attach_fresh false true (s.tags x)) _ _ (λ b. at s (Pending.InQueue (Some x) false (Some l)) (Event.AttachFresh (s.tags x)) End.Moved is (refl, tt, λ v o w. refl)) (λ b. tt)
  attach_due s x true None is = either s (may_attach_dirty true false (s.tags x)) _ _ (λ b. at s (Pending.InQueue (Some x) true None) (Event.AttachDirty (s.tags x)) End.Moved is (refl, tt, λ v o w. refl)) (λ b. tt)
  attach_due s x false None is = tt
  attach_due s x true (Some l) is = tt

  converting_due : (goal : Goal) (s : State) (f : Option ℕ) (turned : Bool) → s.steps me ≡ Pending.Converting f turned → Due s (turn_in goal me (Pending.Converting f turned))
  converting_due goal s f true is = own_word s (Pending.Converting f true) Event.Converted End.Moved is refl tt (λ w. w)
  converting_due goal s f false is =
      either s (names me s.memory.forw) _ _
      (λ b. at s (Pending.Converting f false) Event.FreshToGone End.Moved is (refl, tt, λ v o w. head_word n fits s v o me false (named me s.memory.forw b) (ap (λ (p : Pending). is_heading (phase_of p)) is) (ap flag_of is)))
      (λ b. own_word s (Pending.Converting f false) Event.Unconverted End.Moved is refl tt (λ w. w))

  last_word : (t : Tag) → t ≡ word Kind.Purging t.forw None → t.forw ≡ None → t ≡ purging_word None
  last_word t w e = subst (λ (f : Option ℕ). t ≡ word Kind.Purging f None) e w

  write_due : (goal : Goal) (u : State) (l : Line) → u.steps me ≡ Pending.Purging l (Some None) → (u.tags me).forw ≡ None → Due u (write goal l)
  write_due Goal.Load u l is e = own_word u (Pending.Purging l (Some None)) (Event.Written None) End.Moved is refl tt (λ w. last_word (u.tags me) w e)
  write_due Goal.Evict u l is e = own_word u (Pending.Purging l (Some None)) (Event.Written None) End.Moved is refl tt (λ w. last_word (u.tags me) w e)
  write_due (Goal.Write c) u l is e =
      either u (can_count l) _ _
      (λ b. own_word u (Pending.Purging l (Some None)) (Event.Written (Some (change c l.words))) (End.Wrote l.words (l.stamp + 1)) is refl tt (λ w. last_word (u.tags me) w e))
      (λ b. own_word u (Pending.Purging l (Some None)) (Event.Written None) End.Spent is refl tt (λ w. last_word (u.tags me) w e))

  purging_due : (goal : Goal) (u : State) (l : Line) (f : Option ℕ) → u.steps me ≡ Pending.Purging l (Some f) → (u.tags me).forw ≡ f → Due u (purging_at goal me l f)
  purging_due goal u l None is e = write_due goal u l is e
  purging_due goal u l (Some x) is e =
      either u (is_free is_settled_body (u.tags x)) _ _
      (λ b. at u (Pending.Purging l (Some (Some x))) (Event.PurgeOne (u.tags x)) End.Moved is (refl, tt, λ v o w. refl))
      (λ b. either u (may_adopt me (u.tags x)) _ _
      (λ c. at u (Pending.Purging l (Some (Some x))) (Event.Adopt (u.tags x)) End.Moved is (refl, ap (λ (f : Option ℕ). Some f) (sym e), λ v o w. refl))
      (λ c. tt))

  return_due : (u : State) (d : Bool) (l : Line) → u.steps me ≡ Pending.Leaving d l (Some None) → u.memory.forw ≡ Some me → Due u (return_home d)
  return_due u true l is e = at u (Pending.Leaving true l (Some None)) Event.ReturnHomeDirty End.Moved is (refl, tt, λ v o w. head_word n fits u v o me true e (ap (λ (p : Pending). is_heading (phase_of p)) is) (ap flag_of is))
  return_due u false l is e = at u (Pending.Leaving false l (Some None)) Event.ReturnHomeFresh End.Moved is (refl, tt, λ v o w. head_word n fits u v o me false e (ap (λ (p : Pending). is_heading (phase_of p)) is) (ap flag_of is))

  leave_due : (u : State) (d : Bool) (l : Line) (f : Option ℕ) → u.steps me ≡ Pending.Leaving d l (Some f) → u.memory.forw ≡ Some me → Due u (leave me d f)
  leave_due u d l None is e = return_due u d l is e
  leave_due u d l (Some x) is e = either u (is_behind me (u.tags x)) _ _ (λ b. at u (Pending.Leaving d l (Some (Some x))) (Event.Promote (u.tags x)) End.Moved is (refl, tt, λ v o w. refl)) (λ b. tt)

  leaving_due : (goal : Goal) (s : State) (d : Bool) (l : Line) (seen : Option (Option ℕ)) → s.steps me ≡ Pending.Leaving d l seen → Due s (turn_in goal me (Pending.Leaving d l seen))
  leaving_due goal s d l seen is =
      let now : (looked s me).steps me ≡ Pending.Leaving d l (Some (s.tags me).forw) = looked_step me s (Pending.Leaving d l seen) is in
      either (looked s me) (names me s.memory.forw) _ _
      (λ b. leave_due (looked s me) d l (s.tags me).forw now (named me s.memory.forw b))
      (λ b. own_word (looked s me) (Pending.Leaving d l (Some (s.tags me).forw)) Event.Stay End.Moved now refl tt (λ w. w))

  promoted_due : (goal : Goal) (s : State) (d : Bool) (l : Line) (x : ℕ) → s.steps me ≡ Pending.Promoted d l x → Due s (turn_in goal me (Pending.Promoted d l x))
  promoted_due goal s d l x is =
      either s (names me s.memory.forw) _ _
      (λ b. at s (Pending.Promoted d l x) Event.PassOn End.Moved is (refl, tt, λ v o w. head_word n fits s v o me d (named me s.memory.forw b) (ap (λ (p : Pending). is_heading (phase_of p)) is) (ap flag_of is)))
      (λ b. own_word s (Pending.Promoted d l x) Event.ReEnter End.Moved is refl tt (λ w. w))

  roll_on_due : (u : State) (told : Bool) (f b : Option ℕ) (seen : Option (Option ℕ × ℕ)) → u.steps me ≡ look_of (Pending.Rolling told seen) record { kind = Kind.Roll; held = false; forw = f; back = b } → Due u (roll_on me b)
  roll_on_due u told f None seen is = tt
  roll_on_due u told f (Some b) seen is = either u (is_before me (u.tags b)) _ _ (λ c. at u (Pending.Rolling told (Some (f, b))) (Event.TellPredecessor (u.tags b)) End.Moved is (refl, tt, λ v o w. refl)) (λ c. tt)

  -- who is to tell its successor has a back link
  tell_due : (u : State) (x : ℕ) (b : Option ℕ) (seen : Option (Option ℕ × ℕ)) → (u.tags me).back ≡ b → u.steps me ≡ look_of (Pending.Rolling false seen) record { kind = Kind.Roll; held = false; forw = Some x; back = b } → Due u (exchange (Event.TellSuccessor (u.tags x)) End.Moved)
  tell_due u x (Some b) seen e is = at u (Pending.Rolling false (Some (Some x, b))) (Event.TellSuccessor (u.tags x)) End.Moved is (refl, tt, λ v o w. refl)
  tell_due u x None seen e is = at u (Pending.Rolling false seen) (Event.TellSuccessor (u.tags x)) End.Moved is (refl, tt, λ v o w. absurd (rolling_back n fits u v o me (ap (λ (t : Tag). t.kind) (own_at n fits u v o me (Pending.Rolling false seen) is)) (ap phase_of is) e))

  roll_due : (u : State) (told : Bool) (f b : Option ℕ) (seen : Option (Option ℕ × ℕ)) → (u.tags me).back ≡ b → u.steps me ≡ look_of (Pending.Rolling told seen) record { kind = Kind.Roll; held = false; forw = f; back = b } → Due u (roll me told f b)
  roll_due u false (Some x) b seen e is = either u (is_behind me (u.tags x)) _ _ (λ c. tell_due u x b seen e is) (λ c. tt)
  roll_due u false None b seen e is = roll_on_due u false None b seen is
  roll_due u true f b seen e is = roll_on_due u true f b seen is

  -- each turn of the table
  pub due_in : (goal : Goal) (s : State) (p : Pending) → s.steps me ≡ p → Due s (turn_in goal me p)
  due_in goal s Pending.Idle is = either (looked s me) (s.tags me).held _ _ (λ b. tt) (λ free. idle_due goal (looked s me) (s.tags me).kind (looked_step me s Pending.Idle is) free refl)
  due_in goal s (Pending.Holding t l) is = own_word s (Pending.Holding t l) Event.Unhold (seen_end goal) is refl tt (λ w. w.0)
  due_in goal s (Pending.Queueing f) is = queueing_due goal s f is
  due_in goal s (Pending.Fetching f d l) is = at s (Pending.Fetching f d l) Event.ReturnMemory End.Moved is (refl, tt, λ v o w. lent_at n fits s v o me (Pending.Fetching f d l) is)
  due_in goal s (Pending.InQueue None d c) is = settle_due goal s d c (seen_end goal) is
  due_in goal s (Pending.InQueue (Some x) d c) is = attach_due s x d c is
  due_in goal s (Pending.Copying x t l) is = at s (Pending.Copying x t l) Event.ReturnCopy End.Moved is (refl, tt, λ v o w. (kept_at n fits s v o me (Pending.Copying x t l) is).0)
  due_in goal s (Pending.Ready f d l) is = own_word s (Pending.Ready f d l) Event.Settle (seen_end goal) is refl tt (λ w. w)
  due_in goal s (Pending.Converting f turned) is = converting_due goal s f turned is
  due_in goal s (Pending.Purging l seen) is = purging_due goal (looked s me) l (s.tags me).forw (looked_step me s (Pending.Purging l seen) is) refl
  due_in goal s (Pending.Advancing l x t) is = own_word s (Pending.Advancing l x t) Event.Advance End.Moved is refl tt (λ w. w)
  due_in goal s (Pending.Clearing l x t) is = at s (Pending.Clearing l x t) Event.Clear End.Moved is (refl, tt, λ v o w. let k = kept_at n fits s v o me (Pending.Clearing l x t) is in cleared n fits s v o x t k.0 k.1)
  due_in goal s (Pending.Leaving d l seen) is = leaving_due goal s d l seen is
  due_in goal s (Pending.Promoted d l x) is = promoted_due goal s d l x is
  due_in goal s (Pending.WritingBack l) is = at s (Pending.WritingBack l) Event.ReturnMemory End.Moved is (refl, tt, λ v o w. lent_at n fits s v o me (Pending.WritingBack l) is)
  due_in goal s (Pending.Parted f) is = own_word s (Pending.Parted f) Event.Left (out_end goal) is refl tt (λ w. w)
  due_in goal s (Pending.Rolling told seen) is = roll_due (looked s me) told (s.tags me).forw (s.tags me).back seen refl (looked_step me s (Pending.Rolling told seen) is)
  due_in goal s (Pending.Unlinked f b) is = own_word s (Pending.Unlinked f b) Event.Rolled (out_end goal) is refl tt (λ w. w)

  -- the exchange was made
  pub record Done (e : Event) (end : End) (u : State) (r : Turn) (t : State) : Type 0 where
    pub answer : Option Line
    pub answers : Answers n u me e (Ok (Outcome.Done answer)) t
    pub makes : Makes n u me e answer t
    pub keeps : KeepsLawful n fits u me e (Ok (Outcome.Done answer)) t
    pub turn : r ≡ ended end answer

  pub done : (e : Event) (end : End) (u : State) (r : Turn) (t : State) → DueIn u (u.steps me) e → Tried n fits me e end u r t → Done e end u r t
  done e end u r t due h = by_outcome h.outcome h.does.0 h.does.1 h.turn
    where
      by_outcome : (o : Outcome) → Answers n u me e (Ok o) t → KeepsLawful n fits u me e (Ok o) t → r ≡ turn_after end o → Done e end u r t
      by_outcome (Outcome.Done answer) a k turn = record { answer = answer; answers = a; makes = as_made n u me e answer t due.0 a; keeps = k; turn = turn }
      by_outcome (Outcome.Missed code) a k turn = absurd (a.other (due.2 k.value k.before a.formed))
      by_outcome Outcome.Busy a k turn = absurd a

  comes_to : (plan : Plan) (u : State) (r : Turn) (t : State) → IsDue plan u → Came plan u r t → ComesTo plan r
  comes_to (exchange e end) u r t due h = let d = done e end u r t due h in (d.answer, d.turn)
  comes_to (ends turn) u r t due h = h.0
  comes_to (own next) u r t due h = absurd h
  comes_to (mem next) u r t due h = absurd h
  comes_to (tag x next) u r t due h = absurd h

  pub due_again : (goal : Goal) (a : Option Answer) (s : State) → Due s (turn_again goal a me (s.steps me))
  due_again goal (Some a) s = tt
  due_again goal None s = due_in goal s (s.steps me) refl

  -- a turn comes to what its plan is
  pub turn_comes_to : (op : Operation) (s : State) (r : Turn) (t : State) → TakesTurn n fits me op s r t → ComesTo (due_turn op me s) r
  turn_comes_to op s r t h =
      let plan : Plan = turn_again op.goal op.answer me (s.steps me) in
      comes_to (read s.memory s.tags me plan) (reach s plan) r t (due_again op.goal op.answer s) (came plan s r t h)
