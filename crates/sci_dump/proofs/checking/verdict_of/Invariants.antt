use Rattle.std.proofs.Common.{◌<◌, ℕ, slice_index_or}
use Rattle.sci_core.specs.Closed.{ClosedLine, IsExactClosed}
use Rattle.sci_dump.proofs.checking.verdict_of.Given as goal

abbrev pub invariant-loop-number : goal.invariant-loop-number
invariant-loop-number l = (i : ℕ) (d : ClosedLine) → i < l.number → IsExactClosed (slice_index_or l.lines i d)
