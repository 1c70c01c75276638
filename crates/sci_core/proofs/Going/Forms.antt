-- What is shown of each row.
use Rattle.std.proofs.Common.{◌≡◌, ℕ, ◌<◌}
use Rattle.sci_core.specs.declared.lines.Line.{Line}
use Rattle.sci_core.specs.declared.pending.Pending.{Pending}
use Rattle.sci_core.specs.declared.events.Event.{Event}
use Rattle.sci_core.specs.State.{State}
use Rattle.sci_core.specs.Shape.{shape}
use Rattle.sci_core.specs.Law.{Witness, Law, Below}
use Rattle.sci_core.specs.Row.{Row, exchange_with}
use Rattle.sci_core.specs.Table.Purging.{written}
use Rattle.sci_core.specs.Step.{Finds, IsAtHome, taken_line, stepped}

-- the state after the row, with the line that it takes
abbrev pub made : State → ℕ → Row → State
made s me r = stepped s me (exchange_with (taken_line s r.carry) r)

-- the value after the event
abbrev pub value_after : Event → Line → Line
value_after (Event.Written words) v = written v words
value_after _ v = v

pub record Going (n : ℕ) (s : State) (g : Witness) (me : ℕ) (e : Event) (r : Row) : Type 0 where
  pub home : IsAtHome s r.carry
  pub after : Witness
  pub law : Law (shape (made s me r)) after
  pub links : Below n (shape (made s me r))
  pub value : after.value ≡ value_after e g.value

-- the premises of each
pub record Turn (n : ℕ) (s : State) (g : Witness) (me : ℕ) (p : Pending) : Type 0 where
  pub law : Law (shape s) g
  pub links : Below n (shape s)
  pub below : me < n
  pub pending : s.steps me ≡ p

abbrev pub FindsRow : State → Row → Type 0
FindsRow s r = Finds s r.change
