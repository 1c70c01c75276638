-- A turn as a load takes it keeps the line's value.
use Rattle.std.proofs.Common.{◌≡◌, ℕ, Bool, true, false, Option, Some, None, Ok, List, is_some, refl, sym, subst, ◌∙◌}
use Rattle.std.specs.Prelude.{if◌then◌else◌}
use Rattle.std.proofs.lemmas.Bool.{false≢true}
use Rattle.sci_words.specs.declared.tags.Kind.{Kind}
use Rattle.sci_words.specs.declared.tags.Tag.{Tag}
use Rattle.sci_words.specs.declared.memory.Mem.{Mem}
use Rattle.sci_words.specs.declared.memory.MemState.{MemState}
use Rattle.sci_core.specs.declared.lines.Line.{Line}
use Rattle.sci_core.specs.declared.pending.Pending.{Pending}
use Rattle.sci_core.specs.declared.events.Event.{Event}
use Rattle.sci_core.specs.declared.outcomes.Outcome.{Outcome}
use Rattle.sci_core.specs.Found.{names, is_settled_body}
use Rattle.sci_core.specs.Run.{HasValue, KeepsLawful, ValueAfter}
use Rattle.sci_core.specs.State.{State}
use Rattle.sci_core.specs.Step.{looked}
use Rattle.sci_core.proofs.Lawfully.{one_value}
use Rattle.sci_ops.specs.declared.goals.Goal.{Goal}
use Rattle.sci_ops.specs.declared.answers.Turn.{Turn}
use Rattle.sci_ops.specs.Alone.{on_line, TakesTurn}
use Rattle.sci_ops.specs.Plan.{Plan, own, mem, tag, exchange, ends, Takes}
use Rattle.sci_ops.specs.Rest.{read}
use Rattle.sci_ops.specs.Table.{is_same, is_free, may_attach_fresh, may_attach_dirty, may_adopt, is_behind, is_before, begun, idle_as, prepend, purging_at, return_home, leave, roll_on, roll, turn_in}
use Rattle.sci_ops.proofs.Ending.Inverse.{of_own, of_mem, of_tag}
use Rattle.sci_ops.proofs.Resting.Reading.{reach, IsDue, Came, came, due_in, Done, done}

-- all but a write of words
abbrev quiet : Event → Bool
quiet (Event.Written (Some words)) = false
quiet _ = true

abbrev is_quiet : Plan → Bool
is_quiet (exchange e end) = quiet e
is_quiet _ = true

module _ (m : Mem) (tags : ℕ → Tag) (me : ℕ) where
  abbrev Quiet : Plan → Type 0
  Quiet plan = is_quiet (read m tags me plan) ≡ true

  either : (b : Bool) (x y : Plan) → Quiet x → Quiet y → Quiet (if b then x else y)
  either true x y f g = f
  either false x y f g = g

  idle_quiet : (t : Tag) (k : Kind) → Quiet (idle_as Goal.Load me t k)
  idle_quiet t Kind.Invalid = refl
  idle_quiet t Kind.Fresh = refl
  idle_quiet t Kind.Dirty = refl
  idle_quiet t Kind.Valid = refl
  idle_quiet t _ = refl

  prepend_quiet : (st : MemState) → Quiet (prepend Goal.Load st)
  prepend_quiet MemState.Home = refl
  prepend_quiet MemState.Fresh = refl
  prepend_quiet MemState.Gone = refl

  return_quiet : (d : Bool) → Quiet (return_home d)
  return_quiet true = refl
  return_quiet false = refl

  leave_quiet : (d : Bool) (f : Option ℕ) → Quiet (leave me d f)
  leave_quiet d None = return_quiet d
  leave_quiet d (Some x) = either (is_behind me (tags x)) _ _ refl refl

  roll_on_quiet : (b : Option ℕ) → Quiet (roll_on me b)
  roll_on_quiet None = refl
  roll_on_quiet (Some b) = either (is_before me (tags b)) _ _ refl refl

  roll_quiet : (told : Bool) (f b : Option ℕ) → Quiet (roll me told f b)
  roll_quiet false (Some x) b = either (is_behind me (tags x)) _ _ refl refl
  roll_quiet false None b = roll_on_quiet b
  roll_quiet true f b = roll_on_quiet b

  purging_quiet : (l : Line) (f : Option ℕ) → Quiet (purging_at Goal.Load me l f)
  purging_quiet l None = refl
  purging_quiet l (Some x) = either (is_free is_settled_body (tags x)) _ _ refl (either (may_adopt me (tags x)) _ _ refl refl)

  quiet_in : (p : Pending) → Quiet (turn_in Goal.Load me p)
  quiet_in Pending.Idle = either (tags me).held _ _ refl (idle_quiet (tags me) (tags me).kind)
  quiet_in (Pending.Queueing f) = either m.lent _ _ refl (either (is_same m.forw f) _ _ (prepend_quiet m.state) refl)
  quiet_in (Pending.InQueue None d c) = refl
  quiet_in (Pending.InQueue (Some x) d c) = either (may_attach_fresh d (is_some c) (tags x)) _ _ refl (either (may_attach_dirty d (is_some c) (tags x)) _ _ refl refl)
  quiet_in (Pending.Converting f true) = refl
  quiet_in (Pending.Converting f false) = either (names me m.forw) _ _ refl refl
  quiet_in (Pending.Purging l seen) = purging_quiet l (tags me).forw
  quiet_in (Pending.Leaving d l seen) = either (names me m.forw) _ _ (leave_quiet d (tags me).forw) refl
  quiet_in (Pending.Promoted d l x) = either (names me m.forw) _ _ refl refl
  quiet_in (Pending.Rolling told seen) = roll_quiet told (tags me).forw (tags me).back
  quiet_in (Pending.Holding t l) = refl
  quiet_in (Pending.Fetching f d l) = refl
  quiet_in (Pending.Copying x t l) = refl
  quiet_in (Pending.Ready f d l) = refl
  quiet_in (Pending.Advancing l x t) = refl
  quiet_in (Pending.Clearing l x t) = refl
  quiet_in (Pending.WritingBack l) = refl
  quiet_in (Pending.Parted f) = refl
  quiet_in (Pending.Unlinked f b) = refl

same_value : (s t : State) (me : ℕ) (e : Event) (answer : Option Line) (v w : Line) → quiet e ≡ true → ValueAfter s v me e (Ok (Outcome.Done answer)) t w → w ≡ v
same_value s t me (Event.Written None) answer v w h c = c.0
same_value s t me (Event.Written (Some words)) answer v w h c = absurd (false≢true h)
same_value s t me _ answer v w h c = c

module _ (n : ℕ) (fits : List ℕ → Type 0) (me : ℕ) where
  keeps_value : (s t : State) (e : Event) (answer : Option Line) (v : Line) → quiet e ≡ true → KeepsLawful n fits s me e (Ok (Outcome.Done answer)) t → HasValue n fits s v → HasValue n fits t v
  keeps_value s t e answer v h k o =
      let same : k.next ≡ v = same_value s t me e answer k.value k.next h k.change ∙ one_value n fits s k.value v k.before o in
      subst (λ (l : Line). HasValue n fits t l) same k.after

  reach_keeps : (plan : Plan) (s : State) (r : Turn) (t : State) → Takes (on_line n fits me) plan s r t → (v : Line) → HasValue n fits s v → HasValue n fits (reach n fits me s plan) v
  reach_keeps (own next) s r t h v o =
      let look = of_own n fits me h in
      reach_keeps (next (s.tags me)) (looked s me) r t look.rest v (keeps_value s (looked s me) Event.Look None v refl look.lawful o)
  reach_keeps (mem next) s r t h v o = reach_keeps (next s.memory) s r t (of_mem n fits me h) v o
  reach_keeps (tag x next) s r t h v o = reach_keeps (next (s.tags x)) s r t (of_tag n fits me h) v o
  reach_keeps (exchange e end) s r t h v o = o
  reach_keeps (ends turn) s r t h v o = o

  came_keeps : (plan : Plan) (u : State) (r : Turn) (t : State) (v : Line) → is_quiet plan ≡ true → IsDue n fits me plan u → Came n fits me plan u r t → HasValue n fits u v → HasValue n fits t v
  came_keeps (exchange e end) u r t v q due h o = let d : Done n fits me e end u r t = done n fits me e end u r t due h in keeps_value u t e d.answer v q d.keeps o
  came_keeps (ends turn) u r t v q due h o = subst (λ (w : State). HasValue n fits w v) (sym h.1) o
  came_keeps (own next) u r t v q due h o = absurd h
  came_keeps (mem next) u r t v q due h o = absurd h
  came_keeps (tag x next) u r t v q due h o = absurd h

  pub turn_keeps : (s : State) (r : Turn) (t : State) → TakesTurn n fits me (begun Goal.Load) s r t → (v : Line) → HasValue n fits s v → HasValue n fits t v
  turn_keeps s r t h v o =
      let plan : Plan = turn_in Goal.Load me (s.steps me) in
      came_keeps (read s.memory s.tags me plan) (reach n fits me s plan) r t v (quiet_in s.memory s.tags me (s.steps me)) (due_in n fits me Goal.Load s (s.steps me) refl) (came n fits me plan s r t h) (reach_keeps plan s r t h v o)
