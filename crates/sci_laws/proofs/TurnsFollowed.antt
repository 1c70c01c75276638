-- A turn on a line under the law is followed, as a log tells it, and leads to a line under the law.
use Rattle.std.proofs.Common.{◌≡◌, ◌≢◌, ◌∙◌, ◌⊎◌, ℕ, ◌+◌, ◌<◌, ◌≤◌, Bool, true, false, true≢false, List, [], ◌∷◌, ◌++◌, Option, Some, None, Result, Ok, Err, refl, sym, ap, subst, arith, inl, inr, ⊎_elim, append-nil, codes, ltb-true}
use Rattle.std.specs.Prelude.{replicate}
use Rattle.sci_words.specs.declared.tags.Kind.{Kind}
use Rattle.sci_words.specs.declared.tags.Tag.{Tag}
use Rattle.sci_words.specs.Tag.{tag_well_formed, link_below}
use Rattle.sci_core.specs.declared.lines.Line.{Line}
use Rattle.sci_core.specs.declared.pending.Pending.{Pending}
use Rattle.sci_core.specs.declared.events.Event.{Event}
use Rattle.sci_core.specs.declared.outcomes.Outcome.{Outcome}
use Rattle.sci_core.specs.Answers.{Answers, FitsEvent, row_at}
use Rattle.sci_core.specs.PendingStep.{IsOwnWord}
use Rattle.sci_core.specs.Ranges.{ChangesBelow}
use Rattle.sci_core.specs.Run.{HasValue}
use Rattle.sci_core.specs.Shape.{shape}
use Rattle.sci_core.specs.State.{State, word}
use Rattle.sci_core.specs.Step.{is_look, looked}
use Rattle.sci_core.specs.Whole.{IsRuled}
use Rattle.sci_core.proofs.Answered.{line_is_value, purging_has}
use Rattle.sci_core.proofs.Lawfully.{ruled_value}
use Rattle.sci_core.proofs.Ranges.{row_below}
use Rattle.sci_core.proofs.Sound.{memory_links, ruled_after, ruled_looked}
use Rattle.sci_ops.specs.declared.answers.Turn.{Turn}
use Rattle.sci_ops.specs.Change.{StoresFitting}
use Rattle.sci_ops.specs.Operation.{Operation}
use Rattle.sci_ops.specs.Table.{turn_of}
use Rattle.sci_port.specs.declared.calls.Call.TheVariants.{Own}
use Rattle.sci_script.proofs.Once.{done_makes}
use Rattle.sci_port.specs.declared.watching.Ending.{Ending}
use Rattle.sci_port.specs.declared.watching.Load.{Load}
use Rattle.sci_port.specs.declared.watching.Passed.{Passed}
use Rattle.sci_port.specs.Watching.{ending_of, passed_by}
use Rattle.sci_script.specs.Passed.{PassesOn}
use Rattle.sci_script.specs.Turns.{TurnsOn}
use Rattle.sci_logs.specs.TurnText.{entries_of, entry_place, exchange_line, look_line, outcome_text, repeated}
use Rattle.sci_trace.specs.Events.{argument_text, event_name}
use Rattle.sci_trace.specs.Telling.{nothing}
use Rattle.sci_logs.specs.declared.told.Noted.{Noted}
use Rattle.sci_logs.specs.LineText.{noted_at}
use Rattle.sci_logs.specs.Told.{meant}
use Rattle.sci_laws.specs.FollowedTurns.{AreFollowed, AreReadAs, AreToldOf, exchange_told, fit, turn_told}
use Rattle.sci_laws.specs.ReadBack.{IsLink, IsReadAs, look_of, noted_of}
use Rattle.sci_laws.proofs.NotedBack.{exchange_back, look_back}
use Rattle.sci_laws.proofs.Suiting.{Suits, again_says}
use Rattle.sci_laws.proofs.Taking.{Sole, Turned, Went, as_claimed, behind, may_end, means, sole, told_in, turned}

has_back : (held : Bool) (forw back : Option ℕ) → tag_well_formed (record { kind = Kind.Roll; held = held; forw = forw; back = back }) ≡ true → (b : ℕ) × (back ≡ Some b)
has_back held forw None h = absurd (true≢false (sym h))
has_back held forw (Some b) h = (b, refl)

is_link : (n : ℕ) (link : Option ℕ) → n ≤ 1024 → link_below n link ≡ true → IsLink link
is_link n None few h = tt
is_link n (Some x) few h = let small : x < n = ltb-true x n h in omega (arith, few, small)

module _ (n me : ℕ) (s : State) (ruled : IsRuled n fit s) (below : me < n) (few : n ≤ 1024) where
  has : HasValue n fit s ruled.witness.value
  has = ruled_value n fit s ruled

  own : IsOwnWord (s.steps me) (s.tags me)
  own = has.lawful.steps.own_word me

  kept_fits : (l : Line) (seen : Option (Option ℕ)) → s.steps me ≡ Pending.Purging l seen → fit l.words
  kept_fits l seen is = subst (λ (v : Line). fit v.words) (line_is_value n fit s me l ruled.witness.value has (purging_has s me l seen is own)) ruled.fit

  rolls : (told : Bool) (seen : Option (Option ℕ × ℕ)) → s.steps me ≡ Pending.Rolling told seen → (b : ℕ) × ((s.tags me).back ≡ Some b)
  rolls told seen is =
      let tag : s.tags me ≡ word Kind.Roll (s.tags me).forw (s.tags me).back = subst (λ (p : Pending). IsOwnWord p (s.tags me)) is own in
      has_back false (s.tags me).forw (s.tags me).back (sym (ap tag_well_formed tag) ∙ ruled.words.tags me)

  changes : (event : Event) → ChangesBelow n (row_at s me event).change
  changes event = (row_below n s ruled.links me below (s.steps me) event refl).change

  fits : (load : Option Load) (event : Event) → Suits s.memory s.tags me (s.steps me) load event → FitsEvent fit event
  fits load (Event.Written (Some words)) h = h
  fits load (Event.Written None) h = tt
  fits load _ h = tt

  no_look : (load : Option Load) (event : Event) → Suits s.memory s.tags me (s.steps me) load event → is_look event ≡ false
  no_look load Event.Look h = absurd h
  no_look load _ h = refl

  ruled_by : (load : Option Load) (event : Event) (o : Outcome) (t : State) → Suits s.memory s.tags me (s.steps me) load event → Answers n s me event (Ok o) t → IsRuled n fit t
  ruled_by load event (Outcome.Done answer) t h a =
      let made = done_makes n s me event answer t (no_look load event h) a in
      subst (λ (x : State). IsRuled n fit x) (sym made.next) (ruled_after n fit s ruled me below event made.allowed made.finds (fits load event h))
  ruled_by load event (Outcome.Missed word) t h a = subst (λ (x : State). IsRuled n fit x) (sym a.same) ruled
  ruled_by load event Outcome.Busy t h a = absurd a

told_none : (me : ℕ) (q : Passed) → q.step ≡ None → exchange_told me q ≡ []
told_none me q none = ap (λ (s : Option (Event × Ending)). elim s [
  | None ↦ []
  | Some step ↦ noted_of me q step.0 step.1 ∷ []
]) none

line_none : (me : ℕ) (q : Passed) → q.step ≡ None → exchange_line me q ≡ []
line_none me q none = ap (λ (s : Option (Event × Ending)). elim s [
  | None ↦ []
  | Some step ↦ entry_place me q.line ++ event_name step.0 ++ argument_text q.load step.0 [] (codes ")") ++ outcome_text step.1 ++ codes "\n"
]) none

told_is : (me : ℕ) (q : Passed) (event : Event) (ending : Ending) → q.step ≡ Some (event, ending) → exchange_told me q ≡ noted_of me q event ending ∷ []
told_is me q event ending step = ap (λ (s : Option (Event × Ending)). elim s [
  | None ↦ []
  | Some step ↦ noted_of me q step.0 step.1 ∷ []
]) step

look_answers : (n me : ℕ) (s : State) → Answers n s me Event.Look (Ok (Outcome.Done None)) (looked s me)
look_answers n me s = (refl, refl)

-- what is told of one node is answered so, by lines of which this one stands so
module _ (n me line : ℕ) (s : State) (ruled : IsRuled n fit s) (below : me < n) (few : n ≤ 1024) (small : line < 65536) where
  node_small : me < 65535
  node_small = omega (arith, below, few)

  -- one event more, of which this one state comes
  more_followed : (lines : ℕ → State) (r : Noted) (more : List Noted) (u t : State) → r.line ≡ line → Sole n lines r u
      → ((after : ℕ → State) → after line ≡ u → AreFollowed n after more line t) → AreFollowed n lines (r ∷ more) line t
  more_followed lines r more u t at (goes, none, some) on = (
    goes,
    none,
    (λ after h. let k = some after h in (
      (λ other apart. k.1 other (λ e. apart (e ∙ at))),
      on after (subst (λ (l : ℕ). after l ≡ u) at k.0),
    )),
  )

  at_line : (lines : ℕ → State) (at : ℕ) → at ≡ line → lines line ≡ s → lines at ≡ s
  at_line lines at is stands = ap lines is ∙ stands

  exchange_followed : (t : State) (q : Passed) (event : Event) (o : Outcome) → q.step ≡ Some (event, ending_of o) → q.line ≡ line → Suits s.memory s.tags me (s.steps me) q.load event
      → Answers n s me event (Ok o) t → (lines : ℕ → State) → lines line ≡ s → AreFollowed n lines (exchange_told me q) line t
  exchange_followed t q event o step at suits answers lines stands =
      let r = noted_of me q event (ending_of o) in
      let here : lines q.line ≡ s = at_line lines q.line at stands in
      let answer : Answers n (lines q.line) me event (Ok o) t = subst (λ (x : State). Answers n x me event (Ok o) t) (sym here) answers in
      let is = subst (λ (x : State). meant x me r.told ≡ Ok event) (sym here) (means s me q.load event suits) in
      subst (λ (x : List Noted). AreFollowed n lines x line t) (sym (told_is me q event (ending_of o) step))
      (more_followed lines r [] t t at (sole n lines r event o t answer is (as_claimed n s me event o t answers)) (λ after e. e))

  exchange_read : (t : State) (q : Passed) (event : Event) (o : Outcome) → q.step ≡ Some (event, ending_of o) → q.line ≡ line → Suits s.memory s.tags me (s.steps me) q.load event
      → Answers n s me event (Ok o) t → AreReadAs (exchange_line me q) (exchange_told me q)
  exchange_read t q event o step at suits answers =
      let back = exchange_back me q event (ending_of o) step node_small (subst (λ (l : ℕ). l < 65536) (sym at) small)
      (behind n me s few (changes n me s ruled below few) q.load event suits) (may_end n me s few (changes n me s ruled below few) q.load event o t suits answers) in
      subst (λ (x : List Noted). AreReadAs (exchange_line me q) x) (sym (told_is me q event (ending_of o) step)) (exchange_line me q, [], sym (append-nil (exchange_line me q)), back, refl)

  -- behind the looks
  went_followed : (t : State) (p q : Passed) → p.step ≡ None → Went n me line s p t q
      → AreReadAs (exchange_line me q) (exchange_told me q) × AreToldOf n me line (exchange_told me q) × IsRuled n fit t × ((lines : ℕ → State) → lines line ≡ s → AreFollowed n lines (exchange_told me q) line t)
  went_followed t p q none (looks, at, inl (step, same)) =
      let still : q.step ≡ None = step ∙ none in (
        subst (λ (x : List Noted). AreReadAs (exchange_line me q) x) (sym (told_none me q still)) (line_none me q still),
        subst (λ (x : List Noted). AreToldOf n me line x) (sym (told_none me q still)) tt,
        subst (λ (x : State). IsRuled n fit x) (sym same) ruled,
        (λ lines stands. subst (λ (x : List Noted). AreFollowed n lines x line t) (sym (told_none me q still)) (stands ∙ sym same)),
      )
  went_followed t p q none (looks, at, inr (event, o, step, here, suits, answers)) = (
    exchange_read t q event o step here suits answers,
    subst (λ (x : List Noted). AreToldOf n me line x) (sym (told_is me q event (ending_of o) step)) (refl, here, told_in n me s few (changes n me s ruled below few) q.load event suits, tt),
    ruled_by n me s ruled below few q.load event o t suits answers,
    exchange_followed t q event o step here suits answers,
  )

-- no look, or one
no_looks : (me : ℕ) (q : Passed) → q.looks ≡ 0 → (entries_of me q ≡ exchange_line me q) × (turn_told me q ≡ exchange_told me q)
unfolding repeated
no_looks me q none = (
  ap (λ (k : ℕ). repeated (look_line me q.line) k ++ exchange_line me q) none,
  ap (λ (k : ℕ). replicate k (look_of me q.line) ++ exchange_told me q) none,
)

one_look : (me : ℕ) (q : Passed) → q.looks ≡ 1 → (entries_of me q ≡ look_line me q.line ++ exchange_line me q) × (turn_told me q ≡ look_of me q.line ∷ exchange_told me q)
unfolding repeated
one_look me q one = (
  ap (λ (k : ℕ). repeated (look_line me q.line) k ++ exchange_line me q) one,
  ap (λ (k : ℕ). replicate k (look_of me q.line) ++ exchange_told me q) one,
)

abbrev pub Follows : ℕ → ℕ → ℕ → State → State → Passed → Type 0
Follows n me line s t q = AreReadAs (entries_of me q) (turn_told me q) × AreToldOf n me line (turn_told me q) × IsRuled n fit t × ((lines : ℕ → State) → lines line ≡ s → AreFollowed n lines (turn_told me q) line t)

module _ (n me line : ℕ) (s : State) (ruled : IsRuled n fit s) (below : me < n) (few : n ≤ 1024) (small : line < 65536) where
  follows_at_once : (t : State) (q : Passed) → Went n me line s nothing t q → Follows n me line s t q
  follows_at_once t q w =
      let (read, names, law, followed) = went_followed n me line s ruled below few small t nothing q refl w in
      let (text, told) = no_looks me q w.0 in (
        subst (λ (x : List ℕ). AreReadAs x (turn_told me q)) (sym text) (subst (λ (x : List Noted). AreReadAs (exchange_line me q) x) (sym told) read),
        subst (λ (x : List Noted). AreToldOf n me line x) (sym told) names,
        law,
        (λ lines stands. subst (λ (x : List Noted). AreFollowed n lines x line t) (sym told) (followed lines stands)),
      )

  follows_a_look : (t : State) (q : Passed) → Went n me line (looked s me) (passed_by nothing line (Own (Some (s.tags me)))) t q → Follows n me line s t q
  follows_a_look t q w =
      let look_ruled : IsRuled n fit (looked s me) = ruled_looked n fit s ruled me below in
      let (read, names, law, followed) = went_followed n me line (looked s me) look_ruled below few small t (passed_by nothing line (Own (Some (s.tags me)))) q refl w in
      let (text, told) = one_look me q w.0 in
      let at : q.line ≡ line = w.1 refl in
      let r = look_of me q.line in
      let back : IsReadAs noted_at (look_line me q.line) r = look_back me q.line (omega (arith, below, few)) (subst (λ (l : ℕ). l < 65536) (sym at) small) in (
        subst (λ (x : List ℕ). AreReadAs x (turn_told me q)) (sym text)
            (subst (λ (x : List Noted). AreReadAs (look_line me q.line ++ exchange_line me q) x) (sym told) (look_line me q.line, exchange_line me q, refl, back, read)),
        subst (λ (x : List Noted). AreToldOf n me line x) (sym told) (refl, at, refl, names),
        law,
        (λ lines stands. let here : lines q.line ≡ s = ap lines at ∙ stands in
            let answer = subst (λ (x : State). Answers n x me Event.Look (Ok (Outcome.Done None)) (looked s me)) (sym here) (look_answers n me s) in
            subst (λ (x : List Noted). AreFollowed n lines x line t) (sym told)
            (more_followed n me line s ruled below few small lines r (exchange_told me q) (looked s me) t at (sole n lines r Event.Look (Outcome.Done None) (looked s me) answer refl tt) followed)),
      )

  pub turn_follows : (op : Operation) (turn : Turn) (t : State) (q : Passed) → StoresFitting fit op.goal → TurnsOn n me op s turn t → PassesOn n me line op s t nothing q → Follows n me line s t q
  turn_follows op turn t q stores made passes =
      let says = again_says s.memory s.tags me (is_link n s.memory.forw few (memory_links n s ruled.links)) op.goal op.answer (s.steps me) (kept_fits n me s ruled below few) stores (rolls n me s ruled below few) in
      ⊎_elim (λ w. follows_at_once t q w) (λ w. follows_a_look t q w) (turned n me line s (turn_of op me (s.steps me)) turn t nothing q refl says made passes)
