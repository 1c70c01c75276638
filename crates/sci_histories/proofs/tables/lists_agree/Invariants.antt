use Rattle.std.proofs.Common.{◌≡◌, ◌<◌, ℕ, List}
use mathlib.Core.Option.{some}
use lib.ListN.{get_elem?}
use Rattle.sci_core.specs.declared.receipts.Receipt.{Receipt}
use Rattle.sci_histories.specs.Each.{Each}
use Rattle.sci_histories.specs.Table.{AgreesIn}
use Rattle.sci_histories.proofs.tables.lists_agree.Given as goal

abbrev pub invariant-loop-node : goal.invariant-loop-node
invariant-loop-node l = (k : ℕ) (rs : List Receipt) → k < l.node → get_elem? l.lists k ≡ some rs → Each (AgreesIn l.line l.words) rs
