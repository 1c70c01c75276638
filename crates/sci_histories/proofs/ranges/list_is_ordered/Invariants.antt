use Rattle.sci_histories.proofs.Ordering.{AreBehind}
use Rattle.sci_histories.proofs.ranges.list_is_ordered.Given as goal

abbrev pub invariant-loop-place : goal.invariant-loop-place
invariant-loop-place l = AreBehind l.receipts l.place
