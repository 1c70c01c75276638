use Rattle.std.proofs.Common.{◌≡◌, ◌<◌, ℕ}
use mathlib.Core.Option.{some}
use lib.ListN.{get_elem?}
use Rattle.sci_core.specs.declared.receipts.Receipt.{Receipt}
use Rattle.sci_histories.specs.Table.{AgreesIn}
use Rattle.sci_histories.proofs.tables.list_agrees.Given as goal

abbrev pub invariant-loop-place : goal.invariant-loop-place
invariant-loop-place l = (k : ℕ) (r : Receipt) → k < l.place → get_elem? l.receipts k ≡ some r → AgreesIn l.line l.words r
