use Rattle.std.proofs.Common.{◌≡◌, ◌<◌, ℕ, Some, slice_get}
use Rattle.sci_script.specs.declared.commands.Step.{Step}
use Rattle.sci_script.proofs.commands.Script.why_at.Given as goal

-- no command so far stands on that line
abbrev pub invariant-loop-step : goal.invariant-loop-step
invariant-loop-step l = (k : ℕ) (step : Step) → k < l.step-index → slice_get l.self.steps.items k ≡ Some step → step.number ≡ l.number → ⊥
