use Rattle.std.proofs.Common.{◌<◌, ℕ, slice_index_or}
use Rattle.sci_histories.specs.Histories.{LineReceipts}
use Rattle.sci_histories.specs.Rules.{IsLegalLine}
use Rattle.sci_histories.proofs.checking.verdict_of.Given as goal

abbrev pub invariant-loop-number : goal.invariant-loop-number
invariant-loop-number l = (i : ℕ) (d : LineReceipts) → i < l.number → IsLegalLine (slice_index_or l.lines i d)
