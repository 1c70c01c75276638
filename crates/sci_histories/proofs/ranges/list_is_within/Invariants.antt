use Rattle.std.proofs.Common.{◌≡◌, ◌<◌, ℕ}
use mathlib.Core.Option.{some}
use lib.ListN.{get_elem?}
use Rattle.sci_core.specs.declared.receipts.Receipt.{Receipt}
use Rattle.sci_histories.specs.Rules.{IsWithin}
use Rattle.sci_histories.proofs.ranges.list_is_within.Given as goal

abbrev pub invariant-loop-place : goal.invariant-loop-place
invariant-loop-place l = (k : ℕ) (y : Receipt) → k < l.place → get_elem? l.receipts k ≡ some y → IsWithin l.first l.last y
