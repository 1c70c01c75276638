-- A node whose turn waits waits for another.
use Rattle.std.proofs.Common.{◌≡◌, ◌∙◌, ◌<◌, ℕ, zero, suc, Bool, cond, true, false, true≢false, List, Option, Some, None, eqb, if◌then◌else◌, inl, inr, nat_lt, ⊎_elim, ◌⊎◌, refl, sym, ap, subst, take, slice_get, arith}
use Rattle.std.proofs.lemmas.Bool.Decides.{nat_tests}
use Rattle.sci_core.specs.declared.pending.Pending.{Pending}
use Rattle.sci_core.specs.Progress.{IsMover}
use Rattle.sci_core.specs.State.{State}
use Rattle.sci_core.specs.Step.{looked}
use Rattle.sci_port.specs.declared.calls.Call.TheVariants.{Own, MemWas, TagWas}
use Rattle.sci_ops.specs.declared.answers.Answer.{Answer}
use Rattle.sci_ops.specs.declared.answers.Turn.{Turn}
use Rattle.sci_ops.specs.declared.goals.Goal.{Goal}
use Rattle.sci_ops.specs.Alone.{TakesTurn}
use Rattle.sci_ops.specs.Operation.{Operation}
use Rattle.sci_ops.specs.Plan.{Plan, own, mem, tag, exchange, ends}
use Rattle.sci_ops.specs.Rest.{read, due_turn, ComesTo}
use Rattle.sci_ops.specs.Table.{begun, turn_again, turn_in, turn_of}
use Rattle.sci_ops.proofs.Resting.Going.{mover_turns}
use Rattle.sci_ops.proofs.Resting.Reading.{turn_comes_to}
use Rattle.sci_cache.specs.declared.calls.OpenCall.{OpenCall}
use Rattle.sci_cache.specs.Nodes.{NodeState, line_by, goal_by, op_by, shown_by}
use Rattle.sci_script.specs.declared.commands.Command.{Command}
use Rattle.sci_script.specs.declared.commands.Command.TheVariants.{Done}
use Rattle.sci_script.specs.declared.commands.Opening.{Opening}
use Rattle.sci_script.specs.declared.commands.Size.{Size}
use Rattle.sci_script.specs.declared.commands.Step.{Step}
use Rattle.sci_script.specs.declared.reasons.Reason.{Reason}
use Rattle.sci_script.specs.declared.reasons.Reason.TheVariants.{WaitsFor}
use Rattle.sci_script.specs.declared.refusals.ScriptRefusal.TheVariants.{NotDone}
use Rattle.sci_port.specs.declared.watching.Passed.{Passed}
use Rattle.sci_script.specs.Event.{Turned, IsNoEnd}
use Rattle.sci_port.specs.Watching.{passed_by}
use Rattle.sci_script.specs.Passed.{Passes, shared_passes, PassesTurnOf}
use Rattle.sci_script.specs.Reasons.{IsUnendedBy, IsUndone, IsUndoneOf, IsWhy, wait_reason}
use Rattle.sci_script.specs.Request.{no_words}
use Rattle.sci_script.specs.Resting.{any, TakesLentOf}
use Rattle.sci_script.specs.Run.{IsUnended, PrintsAll, Repeats, StopsAt, Unended}
use Rattle.sci_script.specs.ScriptText.{Opens}
use Rattle.sci_script.specs.Shared.{Shared, TakesTurnOf, shared_does, shared_is_open}
use Rattle.sci_script.specs.Size.{AreIn, IsIn}
use Rattle.sci_script.specs.Turns.{Made, TurnsOn}
use Rattle.sci_script.specs.Waiting.{is_wait, goal_on, IsAwaited, IsAwaitedOn, IsAwaitedTowards}
use Rattle.sci_script.proofs.Lasting.{all_keep, unended_keeps}
use Rattle.sci_script.proofs.Once.{made_once}
use Rattle.sci_script.proofs.Sound.{IsSound, does_keeps, opens_sound, turn_lent}
use Rattle.sci_script.proofs.Stuck.{no_wait, node_stays, shown_waits, waits_again}
use Rattle.sci_script.proofs.Unrefused.{front_in, step_in}

-- ---- on a line

-- a turn that waits is one that the table has waiting
waiting_plan : (plan : Plan) → ComesTo plan Turn.Waiting → is_wait plan ≡ true
waiting_plan (exchange event end) h = absurd (no_wait end h.0 h.1)
waiting_plan (ends Turn.Waiting) h = refl
waiting_plan (ends Turn.Moved) h = absurd (cc)
waiting_plan (ends (Turn.Done answer)) h = absurd (cc)
waiting_plan (own next) h = absurd h
waiting_plan (mem next) h = absurd h
waiting_plan (tag node next) h = absurd h

module _ (n me : ℕ) (s t : State) where
  -- the operation hasn't ended
  unanswered : (goal : Goal) (answer : Option Answer) → ComesTo (read s.memory s.tags me (turn_again goal answer me (s.steps me))) Turn.Waiting → answer ≡ None
  unanswered goal None h = refl
  unanswered goal (Some answer) h = absurd (let e : Turn.Waiting ≡ Turn.Done answer = h in cc)

  -- somebody is named
  pub none_waits : (op : Operation) → TakesTurn n any me op s Turn.Waiting t → IsAwaitedOn n s op.goal me None → ⊥
  none_waits op taken h =
      let comes : ComesTo (due_turn op me s) Turn.Waiting = turn_comes_to n any me op s Turn.Waiting t taken in
      let none : op.answer ≡ None = unanswered op.goal op.answer comes in
      let waits : is_wait (read s.memory s.tags me (turn_again op.goal None me (s.steps me))) ≡ true =
      subst (λ (a : Option Answer). is_wait (read s.memory s.tags me (turn_again op.goal a me (s.steps me))) ≡ true) none (waiting_plan (due_turn op me s) comes) in
      ⊎_elim
      (λ (m : IsMover n s me). (mover_turns n me s any t Turn.Waiting op none m taken).1 refl)
      (λ q. true≢false (sym waits ∙ q.1))
      h

-- ---- the line on which a turn that waits has looked

passes_on : (n me line : ℕ) (s : State) (plan : Plan) (t : State) (p q : Passed) → p.line ≡ line → Passes n me line s plan t p q → q.line ≡ line
passes_on n me line s (own next) t p q at h = passes_on n me line (looked s me) (next (s.tags me)) t (passed_by p line (Own (Some (s.tags me)))) q refl h
passes_on n me line s (mem next) t p q at h = passes_on n me line s (next s.memory) t (passed_by p line (MemWas (Some s.memory))) q refl h
passes_on n me line s (tag node next) t p q at h = passes_on n me line s (next (s.tags node)) t (passed_by p line (TagWas node (Some (s.tags node)))) q refl h
passes_on n me line s (exchange event end) t p q at h = ap (λ (x : Passed). x.line) h.2
passes_on n me line s (ends last) t p q at h = ap (λ (x : Passed). x.line) h ∙ at

-- the plan makes a call, or is an end that doesn't wait
abbrev Calls : Plan → Type 0
Calls (ends last) = Turn.Waiting ≡ last → ⊥
Calls plan = Unit {0}

ends_so : (answer : Answer) → Turn.Waiting ≡ Turn.Done answer → ⊥
ends_so answer e = cc

calls_in : (goal : Goal) (me : ℕ) (p : Pending) → Calls (turn_in goal me p)
calls_in goal me (Pending.InQueue None d c) = tt
calls_in goal me (Pending.Converting f true) = tt
calls_in goal me _ = tt

calls_again : (goal : Goal) (answer : Option Answer) (me : ℕ) (p : Pending) → Calls (turn_again goal answer me p)
calls_again goal None me p = calls_in goal me p
calls_again goal (Some answer) me p = ends_so answer

calls_line : (n me line : ℕ) (s : State) (plan : Plan) (t u : State) (p q : Passed) → Calls plan → Made n me s plan Turn.Waiting u → Passes n me line s plan t p q → q.line ≡ line
calls_line n me line s (own next) t u p q calls made h = passes_on n me line (looked s me) (next (s.tags me)) t (passed_by p line (Own (Some (s.tags me)))) q refl h
calls_line n me line s (mem next) t u p q calls made h = passes_on n me line s (next s.memory) t (passed_by p line (MemWas (Some s.memory))) q refl h
calls_line n me line s (tag node next) t u p q calls made h = passes_on n me line s (next (s.tags node)) t (passed_by p line (TagWas node (Some (s.tags node)))) q refl h
calls_line n me line s (exchange event end) t u p q calls made h = ap (λ (x : Passed). x.line) h.2
calls_line n me line s (ends last) t u p q calls made h = absurd (calls made.0)

-- ---- in a memory

-- the line is the one at work
abbrev IsAtWork : Option OpenCall → ℕ → Type 0
IsAtWork None line = ⊥
IsAtWork (Some c) line = line ≡ line_by c.victim c.line

goal_there : (line : ℕ) (c : OpenCall) → line ≡ line_by c.victim c.line → goal_on line (Some c) ≡ Some (goal_by c.victim c.goal)
goal_there line c is = grind (arith, nat_tests, is)

-- a node whose next turn waits
named_by : (s t : Shared) (node line : ℕ) (call : Option OpenCall) → TakesLentOf s node call Turn.Waiting t → IsAtWork call line → IsAwaitedTowards s.width (s.lines line) (goal_on line call) node None → ⊥
named_by s t node line None h at none = absurd h
named_by s t node line (Some c) h at none =
    let op : Operation = op_by c.victim c.goal in
    let work : ℕ = line_by c.victim c.line in
    let lent : TakesTurn s.width any node op (s.lines work) Turn.Waiting (t.lines work) =
    subst (λ (r : Turn). TakesTurn s.width any node op (s.lines work) r (t.lines work)) (shown_waits c.victim h.turn h.shows) h.lent in
    let here : IsAwaitedOn s.width (s.lines line) op.goal node None = subst (λ (g : Option Goal). IsAwaitedTowards s.width (s.lines line) g node None) (goal_there line c at) none in
    none_waits s.width node (s.lines work) (t.lines work) op lent (subst (λ (l : ℕ). IsAwaitedOn s.width (s.lines l) op.goal node None) at here)

-- what passed in a turn that waited is on the line at work
passed_there : (s t : Shared) (node : ℕ) (call : Option OpenCall) (p q : Passed) → TakesTurnOf s node call Turn.Waiting t → PassesTurnOf s node call t p q → IsAtWork call q.line
passed_there s t node None p q h k = absurd h
passed_there s t node (Some c) p q h k =
    let op : Operation = op_by c.victim c.goal in
    let work : ℕ = line_by c.victim c.line in
    let made : TurnsOn s.width node op (s.lines work) Turn.Waiting (t.lines work) = subst (λ (r : Turn). TurnsOn s.width node op (s.lines work) r (t.lines work)) (shown_waits c.victim h.turn h.shows) h.made in
    calls_line s.width node work (s.lines work) (turn_of op node ((s.lines work).steps node)) (t.lines work) (t.lines work) p q (calls_again op.goal op.answer node ((s.lines work).steps node)) made k

call_stays : (s t : Shared) (node : ℕ) (call : Option OpenCall) → (s.nodes node).call ≡ call → TakesTurnOf s node call Turn.Waiting t → (t.nodes node).call ≡ call
call_stays s t node None is h = absurd h
call_stays s t node (Some c) is h = ap (λ (k : NodeState). k.call) (node_stays s t node c is h) ∙ is

somebody : (whom : Option ℕ) (is : Option ℕ → Type 0) → (is None → ⊥) → is whom → (y : ℕ) × (whom ≡ Some y)
somebody None is never h = absurd (never h)
somebody (Some y) is never h = (y, refl)

-- ---- turns that don't end a call

-- a turn comes to one answer
turns_once : (s t u : Shared) (node : ℕ) (call : Option OpenCall) (a b : Turn) → TakesTurnOf s node call a t → TakesTurnOf s node call b u → a ≡ b
turns_once s t u node None a b h k = absurd h
turns_once s t u node (Some c) a b h k =
    let op : Operation = op_by c.victim c.goal in
    let line : State = s.lines (line_by c.victim c.line) in
    let once = made_once s.width node (turn_of op node (line.steps node)) line h.turn k.turn (t.lines (line_by c.victim c.line)) (u.lines (line_by c.victim c.line)) h.made k.made in
    h.shows ∙ ap (λ (r : Turn). shown_by c.victim r) once.0 ∙ sym k.shows

waits_not_moves : Turn.Waiting ≡ Turn.Moved → ⊥
waits_not_moves e = cc

module _ (node : ℕ) where
  one_more : (m : ℕ) (s mid t : Shared) (o : Turn) → IsNoEnd o → shared_does mid (Turned node o) t → Repeats shared_does (Turned node Turn.Moved) m s mid ⊎ shared_does mid (Turned node Turn.Waiting) mid
      → Repeats shared_does (Turned node Turn.Moved) (suc m) s t ⊎ shared_does t (Turned node Turn.Waiting) t
  unfolding Repeats
  one_more m s mid t Turn.Waiting goes turned h = inr (waits_again mid t node turned)
  one_more m s mid t Turn.Moved goes turned h =
      ⊎_elim
      (λ (r : Repeats shared_does (Turned node Turn.Moved) m s mid). inl (mid, r, turned))
      (λ (w : shared_does mid (Turned node Turn.Waiting) mid). absurd (waits_not_moves (turns_once mid mid t node (mid.nodes node).call Turn.Waiting Turn.Moved w turned)))
      h
  one_more m s mid t (Turn.Done answer) goes turned h = absurd goes

  -- they all move, or the next one waits
  moves_or_waits : (m : ℕ) (s t : Shared) → Unended shared_does node m s t → Repeats shared_does (Turned node Turn.Moved) m s t ⊎ shared_does t (Turned node Turn.Waiting) t
  unfolding Unended Repeats
  moves_or_waits zero s t h = inl h
  moves_or_waits (suc m) s t h = one_more m s h.0 t h.1 h.3 h.4 (moves_or_waits m s h.0 h.2)

module _ (size : Size) (node : ℕ) (below : node < size.nodes) where
  -- a node that has waited waits for somebody
  pub waits_for_one : (s t : Shared) (p q : Passed) (whom : Option ℕ) → IsSound size s → shared_does s (Turned node Turn.Waiting) t → shared_passes s node t p q → IsAwaited t q.line node whom → (y : ℕ) × (whom ≡ Some y)
  waits_for_one s t p q whom sound h k awaited =
      let later : IsSound size t = does_keeps size s (Turned node Turn.Waiting) t below h sound in
      let lent : TakesLentOf t node (t.nodes node).call Turn.Waiting t = turn_lent size t t node Turn.Waiting below later (waits_again s t node h) in
      let at : IsAtWork (t.nodes node).call q.line = subst (λ (c : Option OpenCall). IsAtWork c q.line) (sym (call_stays s t node (s.nodes node).call refl h)) (passed_there s t node (s.nodes node).call p q h k) in
      somebody whom (λ w. IsAwaited t q.line node w) (named_by t t node q.line (t.nodes node).call lent at) awaited

  -- and that is why it doesn't end
  stuck_why : (t : Shared) (call : Option OpenCall) (why : Option Reason) → TakesLentOf t node call Turn.Waiting t → (t.nodes node).call ≡ call → IsUnendedBy t node call why → (whom : ℕ) × (why ≡ Some (WaitsFor node whom))
  stuck_why t None why lent is h = absurd lent
  stuck_why t (Some c) why lent is (whom, awaited, e) =
      let line : ℕ = line_by c.victim c.line in
      let one = somebody whom (λ w. IsAwaited t line node w)
      (λ none. named_by t t node line (Some c) lent refl (subst (λ (k : Option OpenCall). IsAwaitedTowards t.width (t.lines line) (goal_on line k) node None) is none)) awaited in
      (one.0, e ∙ ap (λ w. Some (wait_reason node w)) one.1)

  -- so of a `done` that doesn't end
  undone_by : (s t : Shared) (why : Option Reason) → IsSound size s → Unended shared_does node 100000 s t → IsUnendedBy t node (t.nodes node).call why → IsUndone node s t why
  undone_by s t why sound turns h =
      let later : IsSound size t = unended_keeps shared_is_open shared_does size (λ x. IsSound size x) (does_keeps size) node 100000 s t below turns sound in
      ⊎_elim
      (λ (r : Repeats shared_does (Turned node Turn.Moved) 100000 s t). inr r)
      (λ (w : shared_does t (Turned node Turn.Waiting) t). inl (stuck_why t (t.nodes node).call why (turn_lent size t t node Turn.Waiting below later w) refl h))
      (moves_or_waits node 100000 s t turns)

is_below : (a b : ℕ) → nat_lt a b ≡ true → a < b
is_below a b h = grind (arith, nat_tests, h)

undone : (size : Size) (s t : Shared) (command : Command) (why : Option Reason) → IsIn size command → IsSound size s → IsUnended shared_is_open shared_does size.nodes s command t → IsWhy t command why → IsUndoneOf command s t why
undone size s t (Done node) why inside sound h is = undone_by size node (is_below node size.nodes inside) s t why sound h.1 is
undone size s t _ why inside sound h is = tt

-- what the commands of a script have left is sound
module _ (size : Size) (capacity : ℕ) (openings : List Opening) (steps : List Step) (k : ℕ) (text : List ℕ) (s mid : Shared) (within : AreIn size steps) (opened : Opens size capacity openings s)
    (printed : PrintsAll shared_is_open shared_does no_words s (take k steps) text mid) where
  left_sound : IsSound size mid
  left_sound =
      all_keep shared_is_open shared_does size (λ x. IsSound size x) (does_keeps size) no_words s (take k steps) text mid (λ i x is. step_in size (take k steps) i x (front_in size k steps within) is) printed
      (opens_sound size capacity openings s opened)

  pub undone_behind : (step : Step) (n : ℕ) (t : Shared) (why : Option Reason) → slice_get steps k ≡ Some step → StopsAt shared_is_open shared_does size.nodes mid step (NotDone n) t → IsWhy t step.command why → IsUndoneOf step.command mid t why
  undone_behind step n t why at stopped is = undone size mid t step.command why (step_in size steps k step within at) left_sound stopped.1 is

  pub named_behind : (node : ℕ) (t : Shared) (p q : Passed) (whom : Option ℕ) → node < size.nodes → shared_does mid (Turned node Turn.Waiting) t → shared_passes mid node t p q → IsAwaited t q.line node whom → (y : ℕ) × (whom ≡ Some y)
  named_behind node t p q whom below h passed awaited = waits_for_one size node below mid t p q whom left_sound h passed awaited
