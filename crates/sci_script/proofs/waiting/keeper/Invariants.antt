use Rattle.std.proofs.Common.{◌≡◌, ℕ, ◌<◌, false}
use Rattle.sci_core.specs.Stage.{stage_of}
use Rattle.sci_core.specs.Whole.{state_of}
use Rattle.sci_script.specs.Waiting.{keeps_waiting}
use Rattle.sci_script.proofs.waiting.keeper.Given as goal

abbrev pub invariant-loop-number : goal.invariant-loop-number
invariant-loop-number l = (y : ℕ) → y < l.number → keeps_waiting l.entry (stage_of ((state_of l.line).steps y)) ≡ false
