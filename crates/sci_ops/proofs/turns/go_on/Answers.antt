use Rattle.std.proofs.Common.{◌≡◌, ◌⊎◌, inl, inr, ℕ, ap, sym}
use Rattle.sci_core.specs.declared.outcomes.Outcome.{Outcome}
use Rattle.sci_ops.specs.declared.answers.End.{End}
use Rattle.sci_ops.specs.declared.answers.Turn.{Turn}
use Rattle.sci_ops.specs.Plan.{turn_after}
use Rattle.sci_ops.proofs.Took.{took_step}
use Rattle.sci_ops.proofs.turns.go_on.Goals as goal

waits : (o : Outcome) → ((word : ℕ) × (o ≡ Outcome.Missed word)) ⊎ (o ≡ Outcome.Busy) → Turn.Waiting ≡ turn_after End.Moved o
waits o (inl (word, is)) = sym (ap (turn_after End.Moved) is)
waits o (inr is) = sym (ap (turn_after End.Moved) is)

pub returns-in-Done : goal.returns-in-Done
returns-in-Done g c = λ shown. took_step _ c.step.ensures.gives (sym (ap (turn_after End.Moved) c.in-Done.is))

pub returns-in-Missed : goal.returns-in-Missed
returns-in-Missed g c = λ shown. took_step _ c.step.ensures.gives (waits _ c.in-Missed.is)
