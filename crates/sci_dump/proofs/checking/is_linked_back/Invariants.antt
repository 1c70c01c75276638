use Rattle.std.proofs.Common.{◌<◌, ℕ}
use Rattle.sci_dump.proofs.Deciding.{IsLinkedOn}
use Rattle.sci_dump.proofs.checking.is_linked_back.Given as goal

abbrev pub invariant-loop-node : goal.invariant-loop-node
invariant-loop-node l = (i : ℕ) → i < l.node → IsLinkedOn l.closed i
