use Rattle.std.proofs.Common.{[], arith, get_or}
use Rattle.sci_core.specs.declared.receipts.Receipt.{Receipt}
use Rattle.sci_core.specs.declared.receipts.Receipt.TheVariants.{Read}
use Rattle.sci_histories.specs.Rules.{IsWithin}
use Rattle.sci_histories.proofs.Places.{elem_or, looked_or, looked_each}
use Rattle.sci_histories.proofs.ranges.list_is_within.Goals as goal

pub returns-then-not-is_within : goal.returns-then-not-is_within
returns-then-not-is_within c = λ all. c.if-not-is_within.ensures (all c.loop-place.place (get_or c.args.receipts.now c.loop-place.place (Read [] 0)) (elem_or c.args.receipts.now c.loop-place.place (Read [] 0) c.loop-place-test.true))

pub loop-place-preserved : goal.loop-place-preserved
loop-place-preserved c = looked_or (λ (x : Receipt). IsWithin c.args.first c.args.last x) c.args.receipts.now c.loop-place.place (Read [] 0) c.loop-place-test.true c.if-not-is_within.ensures c.loop-place.invariant

pub returns : goal.returns
returns c = looked_each (λ (x : Receipt). IsWithin c.args.first c.args.last x) c.args.receipts.now c.loop-place.place (omega (arith, c.loop-place-test.false, c.loop-place.auto.place-end)) c.loop-place.invariant
