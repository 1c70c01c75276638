use Rattle.std.proofs.Common.{◌≡◌, ◌<◌, ℕ, List}
use mathlib.Core.Option.{some}
use lib.ListN.{get_elem?}
use Rattle.sci_core.specs.declared.receipts.Receipt.{Receipt}
use Rattle.sci_histories.specs.Rules.{IsOrdered}
use Rattle.sci_histories.proofs.ranges.lists_are_ordered.Given as goal

abbrev pub invariant-loop-node : goal.invariant-loop-node
invariant-loop-node l = (k : ℕ) (y : List Receipt) → k < l.node → get_elem? l.lists k ≡ some y → IsOrdered y
