use Rattle.std.proofs.Common.{◌<◌, ℕ}
use Rattle.sci_dump.proofs.Deciding.{IsListed}
use Rattle.sci_dump.proofs.checking.lists_sharers.Given as goal

abbrev pub invariant-loop-node : goal.invariant-loop-node
invariant-loop-node l = (i : ℕ) → i < l.node → IsListed l.closed i
