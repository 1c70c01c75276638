use Rattle.std.proofs.Common.{◌<◌, ℕ}
use Rattle.sci_dump.proofs.Deciding.{IsSharedBy}
use Rattle.sci_dump.proofs.checking.has_equal_lines.Given as goal

abbrev pub invariant-loop-node : goal.invariant-loop-node
invariant-loop-node l = (i : ℕ) → i < l.node → IsSharedBy l.closed l.shared i
