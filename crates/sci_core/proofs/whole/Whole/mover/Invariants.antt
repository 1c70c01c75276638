use Rattle.std.proofs.Common.{◌≡◌, ℕ, ◌<◌, false}
use Rattle.sci_core.specs.Progress.{goes}
use Rattle.sci_core.specs.Whole.{state_of}
use Rattle.sci_core.proofs.whole.Whole.mover.Given as goal

abbrev pub invariant-loop-number : goal.invariant-loop-number
invariant-loop-number g l = (k : ℕ) → k < l.number → goes (state_of l.self) k ≡ false
