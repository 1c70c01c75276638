use Rattle.std.proofs.Common.{◌-◌, length}
use Rattle.sci_core.specs.Whole.{nodes_of, state_of}
use Rattle.sci_core.proofs.Walking.{Walk}
use Rattle.sci_core.proofs.whole.Whole.chain.Given as goal

abbrev pub invariant-loop-next : goal.invariant-loop-next
invariant-loop-next g l = Walk (nodes_of l.self) (state_of l.self) l.chain.items l.next

abbrev pub decreases-loop-next : goal.decreases-loop-next
decreases-loop-next g l = nodes_of l.self - length l.chain.items
