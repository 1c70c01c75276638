-- What a turn makes of a line that nobody else uses meanwhile: the table's entry, and at most one row. This project's profile.
use Rattle.std.specs.Prelude.{◌≡◌, ℕ, Ok}
use Rattle.sci_core.specs.declared.outcomes.Outcome.{Outcome}
use Rattle.sci_core.specs.State.{State}
use Rattle.sci_core.specs.Step.{looked}
use Rattle.sci_core.specs.Answers.{Answers}
use Rattle.sci_ops.specs.Operation.{Operation}
use Rattle.sci_ops.specs.Plan.{Plan, own, mem, tag, exchange, ends, turn_after}
use Rattle.sci_ops.specs.Table.{turn_of}
use Rattle.sci_ops.specs.declared.answers.Turn.{Turn}

-- the node me of n follows the plan: loads give the words that stand, the own one with a look, and an exchange is the line's answer
abbrev pub Made : ℕ → ℕ → State → Plan → Turn → State → Type 0
Made n me s (own next) turn t = Made n me (looked s me) (next (s.tags me)) turn t
Made n me s (mem next) turn t = Made n me s (next s.memory) turn t
Made n me s (tag node next) turn t = Made n me s (next (s.tags node)) turn t
Made n me s (exchange event end) turn t = (outcome : Outcome) × Answers n s me event (Ok outcome) t × (turn ≡ turn_after end outcome)
Made n me s (ends last) turn t = (turn ≡ last) × (t ≡ s)

-- one turn of the node's operation, by its pending step
abbrev pub TurnsOn : ℕ → ℕ → Operation → State → Turn → State → Type 0
TurnsOn n me op s turn t = Made n me s (turn_of op me (s.steps me)) turn t
