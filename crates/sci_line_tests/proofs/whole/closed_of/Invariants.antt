use Rattle.std.proofs.Common.{◌≡◌, ◌<◌, ℕ}
use Rattle.sci_core.specs.declared.pending.Pending.TheVariants.{Idle}
use Rattle.sci_core.specs.Whole.{state_of}
use Rattle.sci_line_tests.proofs.whole.closed_of.Given as goal

abbrev pub invariant-loop-number : goal.invariant-loop-number
invariant-loop-number l = (i : ℕ) → i < l.number → (state_of l.whole).steps i ≡ Idle
