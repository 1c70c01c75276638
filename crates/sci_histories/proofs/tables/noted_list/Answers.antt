use Rattle.std.proofs.Common.{[], arith}
use Rattle.sci_core.specs.declared.receipts.Receipt.TheVariants.{Read}
use Rattle.sci_histories.proofs.Noting.{noted_within, noted_more, noted_end}
use Rattle.sci_histories.proofs.tables.noted_list.Goals as goal

pub noted-stood-requires : goal.noted-stood-requires
noted-stood-requires c =
    record { within = noted_within c.args.line.now c.args.node c.loop-place.place c.list_of-receipts.result.now (Read [] 0) c.loop-place.words c.loop-place.is_twice c.opening_of-first.result c.opening_of-first.ensures c.list_of-receipts.ensures c.loop-place-test.true c.requires.within c.loop-place.invariant }

pub loop-place-preserved : goal.loop-place-preserved
loop-place-preserved c =
    noted_more c.args.line.now c.args.node c.loop-place.place c.list_of-receipts.result.now (Read [] 0) c.loop-place.words c.noted-stood.new.words c.loop-place.is_twice c.noted-stood.result c.either-is_twice.result c.opening_of-first.result c.opening_of-first.ensures c.list_of-receipts.ensures
    c.loop-place-test.true c.requires.within c.noted-stood.ensures c.either-is_twice.ensures c.loop-place.invariant

pub returns : goal.returns
returns c = noted_end c.args.line.now c.args.node c.loop-place.place c.list_of-receipts.result.now c.loop-place.words c.loop-place.is_twice c.list_of-receipts.ensures (omega (arith, c.loop-place-test.false, c.loop-place.auto.place-end)) c.loop-place.invariant
