use Rattle.std.proofs.Common.{arith, refl, [], ◌-◌, get_or}
use Rattle.sci_core.specs.declared.receipts.Receipt.TheVariants.{Read}
use Rattle.sci_histories.proofs.Ordering.{behind_more, not_behind, all_behind}
use Rattle.sci_histories.proofs.ranges.list_is_ordered.Goals as goal

pub returns-then-not-is_behind : goal.returns-then-not-is_behind
returns-then-not-is_behind c =
    not_behind c.args.receipts.now c.loop-place.place (Read [] 0) (get_or c.args.receipts.now (c.loop-place.place - 1) (Read [] 0)) (get_or c.args.receipts.now c.loop-place.place (Read [] 0)) (omega (arith, c.loop-place.auto.place)) c.loop-place-test.true refl refl c.if-not-is_behind.ensures

pub loop-place-preserved : goal.loop-place-preserved
loop-place-preserved c =
    behind_more c.args.receipts.now c.loop-place.place (Read [] 0) (get_or c.args.receipts.now (c.loop-place.place - 1) (Read [] 0)) (get_or c.args.receipts.now c.loop-place.place (Read [] 0)) (omega (arith, c.loop-place.auto.place)) c.loop-place-test.true refl refl c.if-not-is_behind.ensures c.loop-place.invariant

pub returns : goal.returns
returns c = all_behind c.args.receipts.now c.loop-place.place (omega (arith, c.loop-place-test.false, c.loop-place.auto.place-end)) c.loop-place.invariant
