-- A ruled line has a value; what an event changes of it.
use Rattle.std.proofs.Common.{length, get_or, slice_get, ◌≡◌, ℕ, ◌+◌, ◌<◌, true, false, Option, Some, None, Result, Ok, Err, List, [], ◌∷◌, ◌++◌, refl, sym, ap, subst, ◌∙◌, arith}
use Rattle.std.proofs.lemmas.Bool.Decides.{nat_tests}
use Rattle.std.proofs.lemmas.Option.{slice_get_read}
use Rattle.sci_words.specs.declared.tags.Tag.{Tag}
use Rattle.sci_core.specs.declared.lines.Line.{Line}
use Rattle.sci_core.specs.declared.pending.Pending.{Pending}
use Rattle.sci_core.specs.declared.events.Event.{Event}
use Rattle.sci_core.specs.declared.outcomes.Outcome.{Outcome}
use Rattle.sci_core.specs.declared.outcomes.NotInTurn.{NotInTurn}
use Rattle.sci_core.specs.State.{State, update, opened}
use Rattle.sci_core.specs.Row.{settled_word}
use Rattle.sci_core.specs.Law.{is_valid}
use Rattle.sci_core.specs.Answers.{Answers, Exchanges, FitsEvent, Makes, is_allowed, row_at}
use Rattle.sci_core.specs.PendingStep.{IsOwnWord}
use Rattle.sci_core.specs.Run.{HasValue, IsLawfulLine, ValueAfter, AnswersValue, KeepsLawful, Trail, Runs, IsRefused, done_in}
use Rattle.sci_core.specs.Sharers.{IsSoleSharer}
use Rattle.sci_core.specs.Step.{looked, is_look}
use Rattle.sci_core.specs.Table.{has_row, row_of}
use Rattle.sci_core.specs.Whole.{WholeLine, IsRuled, IsSameLine, nodes_of, state_of, opened_whole}
use Rattle.sci_core.proofs.Answered.{HasLine, answered, line_is_value, purging_has}
use Rattle.sci_core.proofs.Going.Forms.{Going, made, value_after}
use Rattle.sci_core.proofs.Opening.{opened_witness, opened_is_lawful, opened_links}
use Rattle.sci_core.proofs.Ruled.{ruled_path, ruled_lawful, ruled_facts, ruled_coherent}
use Rattle.sci_core.proofs.SoleSharer.{sole_sharer}
use Rattle.sci_core.proofs.Sound.{going, ruled_after, ruled_looked}
use Rattle.sci_core.proofs.States.{opened_state}
use Rattle.sci_core.proofs.Unique.{value_unique}

-- a ruled line has its witness's value
pub ruled_value : (n : ℕ) (fits : List ℕ → Type 0) (s : State) (r : IsRuled n fits s) → HasValue n fits s r.witness.value
ruled_value n fits s r =
    let path = ruled_path n fits s r in
    record { chain = path.0; lawful = ruled_lawful n fits s r path.0 path.1; coherent = ruled_coherent n fits s r path.0 path.1; remembered = ruled_facts n fits s r path.0 path.1 }

-- a line just opened has the value that it was opened with
pub opened_value : {K : Type 0} (fits : List ℕ → Type 0) (keep : K) (number n : ℕ) (line : Line) → fits line.words → HasValue n fits (state_of (opened_whole keep number n line)) line
opened_value fits keep number n line h =
    subst (λ (s : State). HasValue n fits s line) (sym (opened_state keep number n line))
    (ruled_value n fits (opened n line) record { witness = opened_witness line; law = opened_is_lawful n line; links = opened_links n line; words = record { memory = refl; tags = λ i. refl }; fit = h })

-- a line has one value
pub one_value : (n : ℕ) (fits : List ℕ → Type 0) (s : State) (v w : Line) → HasValue n fits s v → HasValue n fits s w → v ≡ w
one_value n fits s v w a b = value_unique n fits s a.chain b.chain v w a.lawful b.lawful

-- the only valid sharer is still that, where it alone changed its tag to a valid one
still_sole : (tags : ℕ → Tag) (me : ℕ) (w : Tag) → is_valid w.kind ≡ true → ((j : ℕ) → is_valid (tags j).kind ≡ true → me ≡ j) → (j : ℕ) → is_valid (update tags me w j).kind ≡ true → me ≡ j
still_sole tags me w h o j v = grind (arith, nat_tests, o j)

own_valid : (tags : ℕ → Tag) (me : ℕ) (w : Tag) → is_valid w.kind ≡ true → is_valid (update tags me w me).kind ≡ true
own_valid tags me w h = grind (arith, nat_tests)

sole_after : (s t : State) (me : ℕ) (w : Tag) → is_valid w.kind ≡ true → t.tags ≡ update s.tags me w → IsSoleSharer s me → IsSoleSharer t me
sole_after s t me w h e o =
    let P : (ℕ → Tag) → Type 0 = λ f. (is_valid (f me).kind ≡ true) × ((j : ℕ) → is_valid (f j).kind ≡ true → me ≡ j) in
    subst P (sym e) (own_valid s.tags me w h, still_sole s.tags me w h o.1)

-- who writes is Purging, and has seen that nobody stands behind it
writes_from : (n me : ℕ) (p : Pending) (words : Option (List ℕ)) → has_row n me p (Event.Written words) ≡ true → (l : Line) × (p ≡ Pending.Purging l (Some None))
writes_from n me (Pending.Purging l (Some None)) words h = (l, refl)
writes_from n me (Pending.Purging l None) words h = absurd (cc)
writes_from n me (Pending.Purging l (Some (Some x))) words h = absurd (cc)
writes_from n me _ words h = absurd (cc)

-- a line that is answered is the value, and its node a valid sharer
answers_value : (n : ℕ) (fits : List ℕ → Type 0) (s t : State) (me : ℕ) (e : Event) (answer : Option Line) (w : Line) → IsOwnWord (s.steps me) (s.tags me) → Makes n s me e answer t → HasValue n fits t w → AnswersValue me (Ok (Outcome.Done answer)) t w
answers_value n fits s t me e None w o m h = tt
answers_value n fits s t me e (Some line) w o m h =
    let has : HasLine t me line = answered n s me e line t o m in
    (sym (line_is_value n fits t me line w h has), has.0)

module _ (n : ℕ) (fits : List ℕ → Type 0) (s : State) (r : IsRuled n fits s) (me : ℕ) (below : me < n) where
  pub looked_keeps : KeepsLawful n fits s me Event.Look (Ok (Outcome.Done None)) (looked s me)
  looked_keeps =
      let after : IsRuled n fits (looked s me) = ruled_looked n fits s r me below in
      record { value = r.witness.value; next = r.witness.value; before = ruled_value n fits s r; after = ruled_value n fits (looked s me) after; change = refl; answer = tt }

  -- the writer keeps the value
  writer_keeps : (l : Line) → s.steps me ≡ Pending.Purging l (Some None) → s.steps me ≡ Pending.Purging r.witness.value (Some None)
  writer_keeps l e =
      let before : HasValue n fits s r.witness.value = ruled_value n fits s r in
      let same : r.witness.value ≡ l = line_is_value n fits s me l r.witness.value before (purging_has s me l (Some None) e (before.lawful.steps.own_word me)) in
      e ∙ ap (λ (x : Line). Pending.Purging x (Some None)) (sym same)

  written_tags : (p : Pending) (l : Line) (words : Option (List ℕ)) → p ≡ Pending.Purging l (Some None) → (made s me (row_of me p (Event.Written words))).tags ≡ update s.tags me (settled_word true None)
  written_tags p l words e = subst (λ (q : Pending). (made s me (row_of me q (Event.Written words))).tags ≡ update s.tags me (settled_word true None)) (sym e) refl

  made_value : (e : Event) (answer : Option Line) (w : Line) → has_row n me (s.steps me) e ≡ true → w ≡ value_after e r.witness.value → ValueAfter s r.witness.value me e (Ok (Outcome.Done answer)) (made s me (row_at s me e)) w
  made_value (Event.Written words) answer w h e =
      let p = writes_from n me (s.steps me) words h in
      let sole : IsSoleSharer s me = sole_sharer s r.witness r.law me p.0 p.1 in
      (e, sole, sole_after s (made s me (row_at s me (Event.Written words))) me (settled_word true None) refl (written_tags (s.steps me) p.0 words p.1) sole, writer_keeps p.0 p.1)
  made_value _ answer w h e = e

  pub made_keeps : (e : Event) (answer : Option Line) → Makes n s me e answer (made s me (row_at s me e)) → FitsEvent fits e → KeepsLawful n fits s me e (Ok (Outcome.Done answer)) (made s me (row_at s me e))
  made_keeps e answer m k =
      let before : HasValue n fits s r.witness.value = ruled_value n fits s r in
      let go : Going n s r.witness me e (row_at s me e) = going n fits s r me below e m.allowed m.finds in
      let ruled : IsRuled n fits (made s me (row_at s me e)) = ruled_after n fits s r me below e m.allowed m.finds k in
      let after : HasValue n fits (made s me (row_at s me e)) ruled.witness.value = ruled_value n fits (made s me (row_at s me e)) ruled in
      record {
        value = r.witness.value;
        next = ruled.witness.value;
        before = before;
        after = after;
        change = made_value e answer ruled.witness.value m.allowed go.value;
        answer = answers_value n fits s (made s me (row_at s me e)) me e answer ruled.witness.value (before.lawful.steps.own_word me) m after;
      }

-- a look or an exchange
pub done_keeps : (n : ℕ) (fits : List ℕ → Type 0) (s t : State) (me : ℕ) (e : Event) (answer : Option Line) → IsRuled n fits s → me < n → FitsEvent fits e → Makes n s me e answer t → KeepsLawful n fits s me e (Ok (Outcome.Done answer)) t
done_keeps n fits s t me e answer r below fit m =
    let makes : Makes n s me e answer (made s me (row_at s me e)) = subst (λ (u : State). Makes n s me e answer u) m.next m in
    subst (λ (u : State). KeepsLawful n fits s me e (Ok (Outcome.Done answer)) u) (sym m.next) (made_keeps n fits s r me below e answer makes fit)

-- what a value holds for, another that is equal holds for
moved : (n : ℕ) (fits : List ℕ → Type 0) (s : State) (v w : Line) → v ≡ w → HasValue n fits s v → HasValue n fits s w
moved n fits s v w e h = subst (λ (x : Line). HasValue n fits s x) e h

-- a value that an event changes is the line's value
changed : (s t : State) (me : ℕ) (e : Event) (r : Result Outcome NotInTurn) (u v w : Line) → u ≡ v → ValueAfter s u me e r t w → ValueAfter s v me e r t w
changed s t me e r u v w h c = subst (λ (x : Line). ValueAfter s x me e r t w) h c

-- a run, and one more event
pub trail_more : (n : ℕ) (fits : List ℕ → Type 0) (s mid t : State) (v u : Line) (es : List (ℕ × Event)) (e : ℕ × Event) (o : Outcome) (done : ℕ)
    → HasValue n fits s v → Trail n fits s v es done mid u → Answers n mid e.0 e.1 (Ok o) t → KeepsLawful n fits mid e.0 e.1 (Ok o) t
    → (w : Line) × Trail n fits s v (es ++ e ∷ []) (done + done_in o) t w
trail_more n fits s mid t v u [] e o done h trail answers keeps =
    let start : mid ≡ s = trail.1 in
    let same : keeps.value ≡ v = one_value n fits s keeps.value v (subst (λ (x : State). HasValue n fits x keeps.value) start keeps.before) h in
    let more : State → Type 0 = λ x. Answers n x e.0 e.1 (Ok o) t × ValueAfter x v e.0 e.1 (Ok o) t keeps.next in
    let from : Answers n s e.0 e.1 (Ok o) t × ValueAfter s v e.0 e.1 (Ok o) t keeps.next = subst more start (answers, changed mid t e.0 e.1 (Ok o) keeps.value v keeps.next same keeps.change) in
    (keeps.next, (o, 0, t, keeps.next, omega (arith, trail.0), from.0, keeps.after, from.1, (refl, refl, refl)))
trail_more n fits s mid t v u (x ∷ xs) e o done h trail answers keeps =
    let rest = trail_more n fits trail.2 mid t trail.3 u xs e o trail.1 trail.6 trail.8 answers keeps in
    (rest.0, (trail.0, trail.1 + done_in o, trail.2, trail.3, omega (arith, trail.4), trail.5, trail.6, trail.7, rest.1))

pub lawful_line : (n : ℕ) (fits : List ℕ → Type 0) (s : State) → IsRuled n fits s → IsLawfulLine n fits s
lawful_line n fits s r = (r.witness.value, ruled_value n fits s r)

pub look_keeps : (n : ℕ) (fits : List ℕ → Type 0) (s t : State) (me : ℕ) → IsRuled n fits s → me < n → t ≡ looked s me → KeepsLawful n fits s me Event.Look (Ok (Outcome.Done None)) t
look_keeps n fits s t me r below e = subst (λ (u : State). KeepsLawful n fits s me Event.Look (Ok (Outcome.Done None)) u) (sym e) (looked_keeps n fits s r me below)

-- a lawful line in which nothing changed
pub still_keeps : (n : ℕ) (fits : List ℕ → Type 0) (s t : State) (me : ℕ) (e : Event) (r : Result Outcome NotInTurn) → IsLawfulLine n fits s → t ≡ s → ((v : Line) → ValueAfter s v me e r s v × AnswersValue me r s v) → KeepsLawful n fits s me e r t
still_keeps n fits s t me e r o h k = subst (λ (u : State). KeepsLawful n fits s me e r u) (sym h) record { value = o.0; next = o.0; before = o.1; after = o.1; change = (k o.0).0; answer = (k o.0).1 }

missed_same : (s : State) (me : ℕ) (e : Event) (w : ℕ) (v : Line) → ValueAfter s v me e (Ok (Outcome.Missed w)) s v
missed_same s me (Event.Written words) w v = refl
missed_same s me _ w v = refl

refused_same : (s : State) (me : ℕ) (e : Event) (x : NotInTurn) (v : Line) → ValueAfter s v me e (Err x) s v
refused_same s me (Event.Written words) x v = refl
refused_same s me _ x v = refl

pub missed_keeps : (n : ℕ) (fits : List ℕ → Type 0) (s t : State) (me : ℕ) (e : Event) (w : ℕ) → IsLawfulLine n fits s → t ≡ s → KeepsLawful n fits s me e (Ok (Outcome.Missed w)) t
missed_keeps n fits s t me e w o h = still_keeps n fits s t me e (Ok (Outcome.Missed w)) o h (λ v. (missed_same s me e w v, tt))

pub refused_keeps : (n : ℕ) (fits : List ℕ → Type 0) (s t : State) (me : ℕ) (e : Event) (x : NotInTurn) → IsLawfulLine n fits s → t ≡ s → KeepsLawful n fits s me e (Err x) t
refused_keeps n fits s t me e x o h = still_keeps n fits s t me e (Err x) o h (λ v. (refused_same s me e x v, tt))

-- an allowed event that is no look has a row of the table
pub has_row_of : (n me : ℕ) (p : Pending) (e : Event) → is_look e ≡ false → is_allowed n me p e ≡ true → has_row n me p e ≡ true
has_row_of n me p Event.Look h a = absurd (cc)
has_row_of n me p _ h a = a

-- a look is what it says it is
pub looks : (e : Event) → is_look e ≡ true → e ≡ Event.Look
looks Event.Look h = refl
looks _ h = absurd (cc)

-- what an exchange comes to is what the step answers
pub exchange_answers : (n : ℕ) (s t : State) (me : ℕ) (e : Event) (o : Outcome) → is_look e ≡ false → Exchanges n s me e o t → Answers n s me e (Ok o) t
exchange_answers n s t me Event.Look o h x = absurd (cc)
exchange_answers n s t me _ (Outcome.Done answer) h x = x
exchange_answers n s t me _ (Outcome.Missed w) h x = x
exchange_answers n s t me _ Outcome.Busy h x = x

-- what holds of a line's number of nodes and fact holds of those of the same line
line_as : {K : Type 0} (fits : K → ℕ → List ℕ → Type 0) (a w : WholeLine K) → IsSameLine a w → (P : ℕ → (List ℕ → Type 0) → Type 0) → P (nodes_of w) (fits w.keep w.number) → P (nodes_of a) (fits a.keep a.number)
line_as {K} fits a w same P h =
    subst (λ (n : ℕ). P n (fits a.keep a.number)) same.nodes
    (subst (λ (k : K). P (nodes_of w) (fits k a.number)) same.keep
    (subst (λ (i : ℕ). P (nodes_of w) (fits w.keep i)) same.number h))

runs_more : (n : ℕ) (fits : List ℕ → Type 0) (s mid t : State) (es : List (ℕ × Event)) (e : ℕ × Event) (o : Outcome) (done : ℕ)
    → Runs n fits s es done mid → Answers n mid e.0 e.1 (Ok o) t → KeepsLawful n fits mid e.0 e.1 (Ok o) t → Runs n fits s (es ++ e ∷ []) (done + done_in o) t
runs_more n fits s mid t es e o done r answers keeps =
    let more = trail_more n fits s mid t r.value r.next es e o done r.before r.trail answers keeps in
    record { value = r.value; next = more.0; before = r.before; trail = more.1 }

-- a run of a `Whole`, and one more step of it
pub run_more : {K : Type 0} (fits : K → ℕ → List ℕ → Type 0) (a w v : WholeLine K) (es : List (ℕ × Event)) (e : ℕ × Event) (o : Outcome) (done : ℕ)
    → IsSameLine a w → Runs (nodes_of a) (fits a.keep a.number) (state_of a) es done (state_of w)
    → Answers (nodes_of w) (state_of w) e.0 e.1 (Ok o) (state_of v) → KeepsLawful (nodes_of w) (fits w.keep w.number) (state_of w) e.0 e.1 (Ok o) (state_of v)
    → Runs (nodes_of a) (fits a.keep a.number) (state_of a) (es ++ e ∷ []) (done + done_in o) (state_of v)
run_more fits a w v es e o done same r answers keeps =
    let one : Answers (nodes_of a) (state_of w) e.0 e.1 (Ok o) (state_of v) = subst (λ (n : ℕ). Answers n (state_of w) e.0 e.1 (Ok o) (state_of v)) same.nodes answers in
    let two : KeepsLawful (nodes_of a) (fits a.keep a.number) (state_of w) e.0 e.1 (Ok o) (state_of v) = line_as fits a w same (λ n f. KeepsLawful n f (state_of w) e.0 e.1 (Ok o) (state_of v)) keeps in
    runs_more (nodes_of a) (fits a.keep a.number) (state_of a) (state_of w) (state_of v) es e o done r one two

-- no event is a run of a lawful line
pub run_none : (n : ℕ) (fits : List ℕ → Type 0) (s : State) → IsLawfulLine n fits s → Runs n fits s [] 0 s
run_none n fits s o = record { value = o.0; next = o.0; before = o.1; trail = (refl, refl, refl) }

-- a run up to an event that is not in turn
pub run_refused : (n : ℕ) (s t : State) (es : List (ℕ × Event)) (place : ℕ) (e : ℕ × Event) → place < length es → e ≡ get_or es place e → t ≡ s → is_allowed n e.0 (s.steps e.0) e.1 ≡ false → IsRefused n t (slice_get es place)
run_refused n s t es place e below item same h =
    subst (λ (x : Option (ℕ × Event)). IsRefused n t x) (sym (slice_get_read es (length es) place e refl below item))
    (subst (λ (u : State). is_allowed n e.0 (u.steps e.0) e.1 ≡ false) (sym same) h)
