-- Runs of a line: it is lawful and coherent between any two events, and only a write changes its value.
use Rattle.std.specs.Prelude.{◌≡◌, ℕ, ◌+◌, false, Option, Some, None, Result, Ok, Err, List, [], ◌∷◌, take, slice_get}
use Rattle.sci_core.specs.declared.lines.Line.{Line}
use Rattle.sci_core.specs.declared.pending.Pending.{Pending}
use Rattle.sci_core.specs.declared.events.Event.{Event}
use Rattle.sci_core.specs.declared.outcomes.Outcome.{Outcome}
use Rattle.sci_core.specs.declared.outcomes.NotInTurn.{NotInTurn}
use Rattle.sci_core.specs.State.{State}
use Rattle.sci_core.specs.Answers.{Answers, is_allowed}
use Rattle.sci_core.specs.Facts.{RemembersTruly}
use Rattle.sci_core.specs.Headline.{IsCoherent}
use Rattle.sci_core.specs.Lawful.{Lawful}
use Rattle.sci_core.specs.Sharers.{IsValidSharer, IsSoleSharer}
use Rattle.sci_core.specs.Table.Purging.{written}

-- lawful and coherent, with this value (Culler and Singh), and what its nodes have seen, told or kept still fits
pub record HasValue (n : ℕ) (fits : List ℕ → Type 0) (s : State) (v : Line) : Type 0 where
  pub chain : List ℕ
  pub lawful : Lawful n fits s chain v
  pub coherent : IsCoherent n s chain v
  pub remembered : RemembersTruly s chain

-- lawful and coherent
abbrev pub IsLawfulLine : ℕ → (List ℕ → Type 0) → State → Type 0
IsLawfulLine n fits s = (v : Line) × HasValue n fits s v

-- the value after an event. A writer is Purging the value and has seen that nobody stands behind it, and is the only valid
-- sharer before and after: what it writes, with the next stamp, or the value as it was. No other event changes the value
abbrev pub ValueAfter : State → Line → ℕ → Event → Result Outcome NotInTurn → State → Line → Type 0
ValueAfter s v me (Event.Written words) (Ok (Outcome.Done answer)) t w = (w ≡ written v words) × IsSoleSharer s me × IsSoleSharer t me × (s.steps me ≡ Pending.Purging v (Some None))
ValueAfter s v me e r t w = w ≡ v

-- a line that the node's event answers is the value after it, and the node is a valid sharer
abbrev pub AnswersValue : ℕ → Result Outcome NotInTurn → State → Line → Type 0
AnswersValue me (Ok (Outcome.Done (Some line))) t w = (line ≡ w) × IsValidSharer t me
AnswersValue me r t w = Unit {0}

-- an event from a lawful line to a lawful line
pub record KeepsLawful (n : ℕ) (fits : List ℕ → Type 0) (s : State) (me : ℕ) (e : Event) (r : Result Outcome NotInTurn) (t : State) : Type 0 where
  pub value : Line
  pub next : Line
  pub before : HasValue n fits s value
  pub after : HasValue n fits t next
  pub change : ValueAfter s value me e r t next
  pub answer : AnswersValue me r t next

-- how many done events an outcome is
abbrev pub done_in : Outcome → ℕ
done_in (Outcome.Done answer) = 1
done_in (Outcome.Missed word) = 0
done_in Outcome.Busy = 0

-- the events one after another, each in turn, between lawful lines; `done` of them were done
abbrev pub Trail : ℕ → (List ℕ → Type 0) → State → Line → List (ℕ × Event) → ℕ → State → Line → Type 0
Trail n fits s v [] done t w = (done ≡ 0) × (t ≡ s) × (w ≡ v)
Trail n fits s v (e ∷ es) done t w = (o : Outcome) × (rest : ℕ) × (mid : State) × (u : Line) × (done ≡ done_in o + rest)
    × Answers n s e.0 e.1 (Ok o) mid × HasValue n fits mid u × ValueAfter s v e.0 e.1 (Ok o) mid u × Trail n fits mid u es rest t w

-- the event at this place is not in turn
abbrev pub IsRefused : ℕ → State → Option (ℕ × Event) → Type 0
IsRefused n s (Some e) = is_allowed n e.0 (s.steps e.0) e.1 ≡ false
IsRefused n s None = ⊥

-- a run from a lawful line: all events, and how many were done; or those before the first that is not in turn
pub record Runs (n : ℕ) (fits : List ℕ → Type 0) (s : State) (es : List (ℕ × Event)) (done : ℕ) (t : State) : Type 0 where
  pub value : Line
  pub next : Line
  pub before : HasValue n fits s value
  pub trail : Trail n fits s value es done t next

abbrev pub RunsTo : ℕ → (List ℕ → Type 0) → State → List (ℕ × Event) → Result ℕ ℕ → State → Type 0
RunsTo n fits s es (Ok done) t = Runs n fits s es done t
RunsTo n fits s es (Err place) t = (done : ℕ) × Runs n fits s (take place es) done t × IsRefused n t (slice_get es place)
