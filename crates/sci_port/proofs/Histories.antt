-- A run of calls from a lawful line is one legal history of its value.
use Rattle.std.proofs.Common.{◌≡◌, ◌≢◌, ℕ, ◌+◌, Option, Some, None, Ok, List, [], ◌∷◌, refl, sym, ap, ◌∙◌, subst, arith}
use Rattle.std.proofs.lemmas.Bool.Decides.{nat_tests}
use Rattle.sci_core.specs.declared.lines.Line.{Line}
use Rattle.sci_core.specs.declared.events.Event.{Event}
use Rattle.sci_core.specs.declared.outcomes.Outcome.{Outcome}
use Rattle.sci_core.specs.State.{State, update}
use Rattle.sci_core.specs.Answers.{Makes, row_at}
use Rattle.sci_core.specs.Run.{HasValue, IsLawfulLine, KeepsLawful, ValueAfter, AnswersValue}
use Rattle.sci_core.specs.Step.{look_of, taken_line}
use Rattle.sci_core.proofs.Lawfully.{one_value}
use Rattle.sci_port.specs.declared.calls.Call.{Call}
use Rattle.sci_port.specs.declared.calls.Call.TheVariants.{Own, MemWas, TagWas, Stepped}
use Rattle.sci_port.specs.Runs.{Leads}
use Rattle.sci_port.specs.History.{value_after, value_of, Shows, IsLegal, writes_in, writes, IsHistory}
use Rattle.sci_port.specs.Solo.{Does, Gives}

changed : (s : State) (v : Line) (me : ℕ) (e : Event) (o : Outcome) (t : State) (w : Line) → ValueAfter s v me e (Ok o) t w → w ≡ value_after v (Stepped e o)
changed s v me (Event.Written words) (Outcome.Done answer) t w h = h.0
changed s v me (Event.Written words) (Outcome.Missed code) t w h = h
changed s v me (Event.Written words) Outcome.Busy t w h = h
changed s v me _ o t w h = h

shown : (me : ℕ) (e : Event) (o : Outcome) (t : State) (w : Line) → AnswersValue me (Ok o) t w → Shows (Stepped e o) w
shown me e (Outcome.Done (Some line)) t w h = h.0
shown me e (Outcome.Done None) t w h = tt
shown me e (Outcome.Missed code) t w h = tt
shown me e Outcome.Busy t w h = tt

stamp_after : (v : Line) (call : Call) → (value_after v call).stamp ≡ v.stamp + writes_in call
stamp_after v (Stepped (Event.Written (Some words)) (Outcome.Done answer)) = refl
stamp_after v (Stepped (Event.Written None) (Outcome.Done answer)) = let z : v.stamp ≡ v.stamp + 0 = omega arith in z
stamp_after v (Stepped e (Outcome.Missed code)) = grind (arith)
stamp_after v (Stepped e Outcome.Busy) = grind (arith)
stamp_after v (Stepped _ (Outcome.Done answer)) = let z : v.stamp ≡ v.stamp + 0 = omega arith in z
stamp_after v (Own answer) = let z : v.stamp ≡ v.stamp + 0 = omega arith in z
stamp_after v (MemWas answer) = let z : v.stamp ≡ v.stamp + 0 = omega arith in z
stamp_after v (TagWas node answer) = let z : v.stamp ≡ v.stamp + 0 = omega arith in z

-- each write counts one
pub stamps : (v : Line) (calls : List (ℕ × Call)) → (value_of v calls).stamp ≡ v.stamp + writes calls
stamps v [] = let z : v.stamp ≡ v.stamp + 0 = omega arith in z
stamps v (c ∷ cs) = let more = stamps (value_after v c.1) cs in let one = stamp_after v c.1 in omega arith

other_same : {A : Type 0} (f : ℕ → A) (i j : ℕ) (x : A) → j ≢ i → update f i x j ≡ f j
other_same f i j x ne = grind (arith, nat_tests)

made_still : (n : ℕ) (s : State) (me : ℕ) (e : Event) (answer : Option Line) (t : State) → Makes n s me e answer t → (j : ℕ) → j ≢ me → t.steps j ≡ s.steps j
made_still n s me e answer t m j ne = ap (λ (u : State). u.steps j) m.next ∙ other_same s.steps me j ((row_at s me e).after (taken_line s (row_at s me e).carry)) ne

module _ (n : ℕ) (fits : List ℕ → Type 0) where
  done_still : (s : State) (me : ℕ) (e : Event) (o : Outcome) (t : State) → Does n fits s me e o t → (j : ℕ) → j ≢ me → t.steps j ≡ s.steps j
  done_still s me Event.Look (Outcome.Done answer) t d j ne = ap (λ (u : State). u.steps j) d.0.1 ∙ other_same s.steps me j (look_of (s.steps me) (s.tags me)) ne
  done_still s me e (Outcome.Missed code) t d j ne = ap (λ (u : State). u.steps j) d.0.same
  done_still s me e Outcome.Busy t d j ne = absurd d.0
  done_still s me _ (Outcome.Done answer) t d j ne = made_still n s me _ answer t d.0 j ne

  -- a call of a node changes no other node's step
  pub still : (s : State) (me : ℕ) (call : Call) (t : State) → Gives n fits s me call t → (j : ℕ) → j ≢ me → t.steps j ≡ s.steps j
  still s me (Own answer) t h j ne = done_still s me Event.Look (Outcome.Done None) t h.1 j ne
  still s me (MemWas answer) t h j ne = ap (λ (u : State). u.steps j) h.1
  still s me (TagWas node answer) t h j ne = ap (λ (u : State). u.steps j) h.1
  still s me (Stepped e outcome) t h j ne = done_still s me e outcome t h j ne

  one_done : (s t u : State) (me : ℕ) (e : Event) (o : Outcome) → Does n fits s me e o t → Does n fits s me e o u → t ≡ u
  one_done s t u me Event.Look (Outcome.Done answer) a b = a.0.1 ∙ sym b.0.1
  one_done s t u me e (Outcome.Missed code) a b = a.0.same ∙ sym b.0.same
  one_done s t u me e Outcome.Busy a b = absurd a.0
  one_done s t u me _ (Outcome.Done answer) a b = a.0.next ∙ sym b.0.next

  -- a call with its answer leads to one state alone
  pub one_next : (s t u : State) (me : ℕ) (call : Call) → Gives n fits s me call t → Gives n fits s me call u → t ≡ u
  one_next s t u me (Own answer) a b = one_done s t u me Event.Look (Outcome.Done None) a.1 b.1
  one_next s t u me (MemWas answer) a b = a.1 ∙ sym b.1
  one_next s t u me (TagWas node answer) a b = a.1 ∙ sym b.1
  one_next s t u me (Stepped e outcome) a b = one_done s t u me e outcome a b

  stepped_value : (s : State) (v : Line) (me : ℕ) (e : Event) (o : Outcome) (t : State) → HasValue n fits s v → KeepsLawful n fits s me e (Ok o) t → HasValue n fits t (value_after v (Stepped e o)) × Shows (Stepped e o) (value_after v (Stepped e o))
  stepped_value s v me e o t h k =
      let was : k.value ≡ v = one_value n fits s k.value v k.before h in
      let is : k.next ≡ value_after v (Stepped e o) = changed s k.value me e o t k.next k.change ∙ ap (λ (x : Line). value_after x (Stepped e o)) was in
      (subst (HasValue n fits t) is k.after, subst (Shows (Stepped e o)) is (shown me e o t k.next k.answer))

  -- one call
  pub value_on : (s : State) (v : Line) (me : ℕ) (call : Call) (t : State) → HasValue n fits s v → Gives n fits s me call t → HasValue n fits t (value_after v call) × Shows call (value_after v call)
  value_on s v me (Own answer) t h g = ((stepped_value s v me Event.Look (Outcome.Done None) t h g.1.1).0, tt)
  value_on s v me (MemWas answer) t h g = (subst (λ (x : State). HasValue n fits x v) (sym g.1) h, tt)
  value_on s v me (TagWas node answer) t h g = (subst (λ (x : State). HasValue n fits x v) (sym g.1) h, tt)
  value_on s v me (Stepped e o) t h g = stepped_value s v me e o t h g.1

  -- and the line stays lawful
  pub lawful_on : (s : State) (me : ℕ) (call : Call) (t : State) → Gives n fits s me call t → IsLawfulLine n fits s → IsLawfulLine n fits t
  lawful_on s me call t g l = (value_after l.0 call, (value_on s l.0 me call t l.1 g).0)

  legal : (s : State) (v : Line) (calls : List (ℕ × Call)) (t : State) → HasValue n fits s v → Leads (Gives n fits) s calls t → HasValue n fits t (value_of v calls) × IsLegal v calls
  legal s v [] t h l = (subst (λ (x : State). HasValue n fits x v) (sym l) h, tt)
  legal s v (c ∷ cs) t h l =
      let one = value_on s v c.0 c.1 l.0 h l.1 in let more = legal l.0 (value_after v c.1) cs t one.0 l.2 in
      (more.0, (one.1, more.1))

  -- a run of calls from a line with the value v is one legal history, at whose end the line has its last value
  pub history : (s : State) (v : Line) (calls : List (ℕ × Call)) (t : State) → HasValue n fits s v → Leads (Gives n fits) s calls t → HasValue n fits t (value_of v calls) × IsHistory v calls (value_of v calls)
  history s v calls t h l = let k = legal s v calls t h l in (k.0, record { legal = k.1; last = refl; stamp = stamps v calls })
