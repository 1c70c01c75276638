-- A turn of a lawful line, as one on a line that is lent to the node.
use Rattle.std.proofs.Common.{◌≡◌, ◌<◌, ℕ, true, [], ◌∷◌, Option, Some, None, Ok, refl, sym, subst}
use Rattle.sci_core.specs.declared.events.Event.{Event}
use Rattle.sci_core.specs.declared.lines.Line.{Line}
use Rattle.sci_core.specs.declared.outcomes.Outcome.{Outcome}
use Rattle.sci_core.specs.declared.pending.Pending.{Pending}
use Rattle.sci_core.specs.Answers.{Answers, FitsEvent, is_allowed}
use Rattle.sci_core.specs.PendingStep.{IsOwnWord}
use Rattle.sci_core.specs.Run.{KeepsLawful}
use Rattle.sci_core.specs.State.{State, opened}
use Rattle.sci_core.specs.Step.{looked}
use Rattle.sci_core.specs.Table.{has_row}
use Rattle.sci_core.specs.Whole.{IsRuled}
use Rattle.sci_core.proofs.Lawfully.{done_keeps, lawful_line, look_keeps, looked_keeps, missed_keeps}
use Rattle.sci_core.proofs.Opening.{opened_witness, opened_is_lawful, opened_links}
use Rattle.sci_core.proofs.Sound.{memory_links, ruled_after, ruled_looked, tag_links}
use Rattle.sci_port.specs.declared.calls.Call.TheVariants.{Own, MemWas, TagWas, Stepped}
use Rattle.sci_port.proofs.Lent.{answer_fits, look_owed, takes_row}
use Rattle.sci_ops.specs.declared.answers.Turn.{Turn}
use Rattle.sci_ops.specs.Alone.{TakesTurn, on_line}
use Rattle.sci_ops.specs.Operation.{Operation}
use Rattle.sci_ops.specs.Plan.{Plan, Takes, own, mem, tag, exchange, ends}
use Rattle.sci_ops.specs.Table.{turn_of}
use Rattle.sci_script.specs.Resting.{any}
use Rattle.sci_script.specs.Turns.{Made, TurnsOn}

-- a line that nobody has used
pub opened_ruled : (n : ℕ) (line : Line) → IsRuled n any (opened n line)
opened_ruled n line = record { witness = opened_witness line; law = opened_is_lawful n line; links = opened_links n line; words = record { memory = refl; tags = λ i. refl }; fit = tt }

fits_any : (e : Event) → FitsEvent any e
fits_any (Event.Written (Some words)) = tt
fits_any (Event.Written None) = tt
fits_any _ = tt

allowed_by : (n me : ℕ) (p : Pending) (e : Event) → has_row n me p e ≡ true → is_allowed n me p e ≡ true
allowed_by n me p Event.Look h = refl
allowed_by n me p _ h = h

answered_by : (n me : ℕ) (s t : State) (e : Event) (o : Outcome) → Answers n s me e (Ok o) t → is_allowed n me (s.steps me) e ≡ true
answered_by n me s t Event.Look (Outcome.Done answer) a = refl
answered_by n me s t e (Outcome.Missed word) a = allowed_by n me (s.steps me) e a.allowed
answered_by n me s t e Outcome.Busy a = absurd a
answered_by n me s t _ (Outcome.Done answer) a = a.allowed

module _ (n me : ℕ) (below : me < n) where
  -- what a line answers keeps it lawful
  kept_by : (s t : State) (e : Event) (o : Outcome) → IsRuled n any s → Answers n s me e (Ok o) t → IsRuled n any t × KeepsLawful n any s me e (Ok o) t
  kept_by s t Event.Look (Outcome.Done answer) r a = (
    subst (λ (u : State). IsRuled n any u) (sym a.1) (ruled_looked n any s r me below),
    subst (λ (x : Option Line). KeepsLawful n any s me Event.Look (Ok (Outcome.Done x)) t) (sym a.0) (look_keeps n any s t me r below a.1),
  )
  kept_by s t e (Outcome.Missed word) r a = (subst (λ (u : State). IsRuled n any u) (sym a.same) r, missed_keeps n any s t me e word (lawful_line n any s r) a.same)
  kept_by s t e Outcome.Busy r a = absurd a
  kept_by s t e (Outcome.Done answer) r a = (
    subst (λ (u : State). IsRuled n any u) (sym a.next) (ruled_after n any s r me below e a.allowed a.finds (fits_any e)),
    done_keeps n any s t me e answer r below (fits_any e) a,
  )

  own_word : (s : State) → IsRuled n any s → IsOwnWord (s.steps me) (s.tags me)
  own_word s r = (lawful_line n any s r).1.lawful.steps.own_word me

  look_given : (s : State) → IsRuled n any s → on_line n any me s (Own (Some (s.tags me))) (looked s me)
  look_given s r = look_owed n any s me (Ok (Outcome.Done None)) (looked s me) (s.tags me) (refl, refl) (looked_keeps n any s r me below) refl (r.words.tags me) (tag_links n s r.links me)

  step_given : (s t : State) (e : Event) (o : Outcome) → IsRuled n any s → Answers n s me e (Ok o) t → on_line n any me s (Stepped e o) t
  step_given s t e o r a =
      let keeps : KeepsLawful n any s me e (Ok o) t = (kept_by s t e o r a).1 in
      ((a, keeps), (answered_by n me s t e o a, takes_row n s me e o t (own_word s r) a, answer_fits n any s me e o t (a, keeps)))

  -- a plan that is followed leaves the line lawful, and its calls are those of a port
  given : (plan : Plan) (s : State) (turn : Turn) (t : State) → IsRuled n any s → Made n me s plan turn t → IsRuled n any t × Takes (on_line n any me) plan s turn t
  given (own next) s turn t r h =
      let more = given (next (s.tags me)) (looked s me) turn t (ruled_looked n any s r me below) h in
      (more.0, record { calls = Own (Some (s.tags me)) ∷ more.1.calls; chain = (looked s me, look_given s r, more.1.chain); follows = more.1.follows })
  given (mem next) s turn t r h =
      let more = given (next s.memory) s turn t r h in
      (more.0, record { calls = MemWas (Some s.memory) ∷ more.1.calls; chain = (s, ((refl, refl), (refl, (r.words.memory, memory_links n s r.links))), more.1.chain); follows = more.1.follows })
  given (tag node next) s turn t r h =
      let more = given (next (s.tags node)) s turn t r h in
      (more.0, record { calls = TagWas node (Some (s.tags node)) ∷ more.1.calls; chain = (s, ((refl, refl), (refl, (r.words.tags node, tag_links n s r.links node))), more.1.chain); follows = (refl, more.1.follows) })
  given (exchange event end) s turn t r h =
      ((kept_by s t event h.0 r h.1).0, record { calls = Stepped event h.0 ∷ []; chain = (t, step_given s t event h.0 r h.1, refl); follows = (refl, h.2) })
  given (ends last) s turn t r h = (subst (λ (u : State). IsRuled n any u) (sym h.1) r, record { calls = []; chain = h.1; follows = h.0 })

  -- one turn
  pub turn_given : (op : Operation) (s : State) (turn : Turn) (t : State) → IsRuled n any s → TurnsOn n me op s turn t → IsRuled n any t × TakesTurn n any me op s turn t
  turn_given op s turn t r h = given (turn_of op me (s.steps me)) s turn t r h
