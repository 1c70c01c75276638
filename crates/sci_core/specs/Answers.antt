-- What a step answers. This project's profile of IEEE Std 1596-1992.
use Rattle.std.specs.Prelude.{◌≡◌, ℕ, Bool, true, false, ◌||◌, Option, Some, None, Result, Ok, Err, List}
use Rattle.sci_words.specs.Codes.{tag_code, mem_code}
use Rattle.sci_core.specs.declared.lines.Line.{Line}
use Rattle.sci_core.specs.declared.pending.Pending.{Pending}
use Rattle.sci_core.specs.declared.events.Event.{Event}
use Rattle.sci_core.specs.declared.rows.Change.{Change}
use Rattle.sci_core.specs.declared.rows.Change.TheVariants.{OfMemory, OfTag}
use Rattle.sci_core.specs.declared.outcomes.Outcome.{Outcome}
use Rattle.sci_core.specs.declared.outcomes.NotInTurn.{NotInTurn}
use Rattle.sci_core.specs.State.{State}
use Rattle.sci_core.specs.Row.{Row, exchange_with}
use Rattle.sci_core.specs.Table.{has_row, row_of}
use Rattle.sci_core.specs.Step.{Finds, IsAtHome, taken_line, stepped, looked, is_look}
use Rattle.sci_core.specs.WellFormed.{FindsWord}

-- the step allows the event: a look, or an exchange of the table
abbrev pub is_allowed : ℕ → ℕ → Pending → Event → Bool
is_allowed n me p e = is_look e || has_row n me p e

-- the row of the event of the node me in this state
abbrev pub row_at : State → ℕ → Event → Row
row_at s me e = row_of me (s.steps me) e

-- the node's exchange is made: its word before was found, the slot that it takes was at home, and this is the state after
pub record Makes (n : ℕ) (s : State) (me : ℕ) (e : Event) (answer : Option Line) (t : State) : Type 0 where
  pub allowed : has_row n me (s.steps me) e ≡ true
  pub finds : Finds s (row_at s me e).change
  pub home : IsAtHome s (row_at s me e).carry
  pub answers : answer ≡ (row_at s me e).answer (taken_line s (row_at s me e).carry)
  pub next : t ≡ stepped s me (exchange_with (taken_line s (row_at s me e).carry) (row_at s me e))

-- the event is done: a look, or the node's exchange
abbrev pub IsDone : ℕ → State → ℕ → Event → Option Line → State → Type 0
IsDone n s me Event.Look answer t = (answer ≡ None) × (t ≡ looked s me)
IsDone n s me e answer t = Makes n s me e answer t

-- the code of the word that stands where the change would be
abbrev pub found_code : State → Change → ℕ
found_code s (OfMemory before after) = mem_code s.memory
found_code s (OfTag x before after) = tag_code (s.tags x)

-- another word of a line of n nodes than the row's was found, and nothing changed
pub record Misses (n : ℕ) (s : State) (me : ℕ) (e : Event) (word : ℕ) (t : State) : Type 0 where
  pub allowed : has_row n me (s.steps me) e ≡ true
  pub formed : FindsWord n s (row_at s me e).change
  pub other : Finds s (row_at s me e).change → ⊥
  pub found : word ≡ found_code s (row_at s me e).change
  pub same : t ≡ s

-- what an exchange comes to
abbrev pub Exchanges : ℕ → State → ℕ → Event → Outcome → State → Type 0
Exchanges n s me e (Outcome.Done answer) t = Makes n s me e answer t
Exchanges n s me e (Outcome.Missed word) t = Misses n s me e word t
Exchanges n s me e Outcome.Busy t = ⊥

-- what an event of the node me answers, and the state after; a line that nobody else holds is never busy
abbrev pub Answers : ℕ → State → ℕ → Event → Result Outcome NotInTurn → State → Type 0
Answers n s me e (Ok (Outcome.Done answer)) t = IsDone n s me e answer t
Answers n s me e (Ok (Outcome.Missed word)) t = Misses n s me e word t
Answers n s me e (Ok Outcome.Busy) t = ⊥
Answers n s me e (Err r) t = (is_allowed n me (s.steps me) e ≡ false) × (t ≡ s)

-- words that are to be written fit
abbrev pub FitsEvent : (List ℕ → Type 0) → Event → Type 0
FitsEvent fits (Event.Written (Some words)) = fits words
FitsEvent fits e = Unit {0}
