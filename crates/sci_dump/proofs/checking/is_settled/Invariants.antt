use Rattle.std.proofs.Common.{◌<◌, ℕ}
use Rattle.sci_dump.specs.Rules.{tag}
use Rattle.sci_dump.proofs.Deciding.{IsSettledTag}
use Rattle.sci_dump.proofs.checking.is_settled.Given as goal

abbrev pub invariant-loop-node : goal.invariant-loop-node
invariant-loop-node l = (i : ℕ) → i < l.node → IsSettledTag (tag l.closed i)
