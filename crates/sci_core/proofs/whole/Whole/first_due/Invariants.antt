use Rattle.std.proofs.Common.{◌≡◌, None}
use Rattle.sci_core.specs.Waiting.{first_due}
use Rattle.sci_core.specs.Whole.{state_of}
use Rattle.sci_core.proofs.whole.Whole.first_due.Given as goal

abbrev pub invariant-loop-number : goal.invariant-loop-number
invariant-loop-number g l = first_due (state_of l.self) l.number l.obstacle ≡ None
