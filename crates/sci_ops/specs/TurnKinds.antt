-- A turn's kind, and the line that it shows apart from it.
use Rattle.sci_core.specs.declared.lines.Line.{Line}
use Rattle.sci_port.specs.declared.calls.Call.{Call}
use Rattle.sci_ops.specs.declared.answers.Answer.{Answer}
use Rattle.sci_ops.specs.declared.answers.Turn.{Turn}
use Rattle.sci_ops.specs.declared.answers.TurnKind.{TurnKind}
use Rattle.sci_ops.specs.Plan.{Plan, Takes}

-- the turn of a kind, which shows this line if it shows one
abbrev pub turn_with : TurnKind → Line → Turn
turn_with TurnKind.Moved shown = Turn.Moved
turn_with TurnKind.Waiting shown = Turn.Waiting
turn_with TurnKind.Seen shown = Turn.Done (Answer.Seen shown.words shown.stamp)
turn_with TurnKind.Wrote shown = Turn.Done (Answer.Wrote shown.words shown.stamp)
turn_with TurnKind.Spent shown = Turn.Done Answer.Spent
turn_with TurnKind.Out shown = Turn.Done Answer.Out

-- the plan is followed to a turn of this kind, whatever line is shown
abbrev pub TakesKind : {S : Type 0} → (S → Call → S → Type 0) → Plan → S → TurnKind → S → Type 0
TakesKind gives plan s kind t = (shown : Line) → Takes gives plan s (turn_with kind shown) t
