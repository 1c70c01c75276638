-- An operation that works alone on a line that is lent to it: its turns, one after another. This project's profile.
use Rattle.std.specs.Prelude.{◌≡◌, ℕ, suc, List}
use Rattle.sci_core.specs.declared.pending.Pending.{Pending}
use Rattle.sci_core.specs.State.{State}
use Rattle.sci_port.specs.declared.calls.Call.{Call}
use Rattle.sci_port.specs.Owes.{Owes}
use Rattle.sci_port.specs.Solo.{Gives}
use Rattle.sci_ops.specs.declared.answers.Answer.{Answer}
use Rattle.sci_ops.specs.declared.answers.Turn.{Turn}
use Rattle.sci_ops.specs.Operation.{Operation}
use Rattle.sci_ops.specs.Plan.{Takes}
use Rattle.sci_ops.specs.Table.{turn_of}

-- no node is on its way
abbrev pub IsAtRest : State → Type 0
IsAtRest s = (i : ℕ) → s.steps i ≡ Pending.Idle

-- a call of the node me on the line that is lent to it, and what its port owes of the pending step
abbrev pub on_line : ℕ → (List ℕ → Type 0) → ℕ → State → Call → State → Type 0
on_line n fits me s call t = Gives n fits s me call t × Owes n fits me (s.steps me) call (t.steps me)

-- a turn of the operation, by the table of turns
abbrev pub TakesTurn : ℕ → (List ℕ → Type 0) → ℕ → Operation → State → Turn → State → Type 0
TakesTurn n fits me op s turn t = Takes (on_line n fits me) (turn_of op me (s.steps me)) s turn t

-- so many turns, one after another, each of which made its exchange and didn't end the operation
pub data Moves (n : ℕ) (fits : List ℕ → Type 0) (me : ℕ) (op : Operation) (s : State) : ℕ → State → Type 0 where
  no_turn : Moves n fits me op s 0 s
  turn : {k : ℕ} {mid t : State} → Moves n fits me op s k mid → TakesTurn n fits me op mid Turn.Moved t → Moves n fits me op s (suc k) t

-- the operation ends after so many turns, and the last of them gives its answer
pub record Ends (n : ℕ) (fits : List ℕ → Type 0) (me : ℕ) (op : Operation) (s : State) (turns : ℕ) (answer : Answer) (t : State) : Type 0 where
  pub before : ℕ
  pub mid : State
  pub moves : Moves n fits me op s before mid
  pub last : TakesTurn n fits me op mid (Turn.Done answer) t
  pub count : turns ≡ suc before
