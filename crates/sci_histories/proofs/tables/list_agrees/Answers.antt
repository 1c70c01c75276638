use Rattle.std.proofs.Common.{[], arith, get_or}
use Rattle.sci_core.specs.declared.receipts.Receipt.{Receipt}
use Rattle.sci_core.specs.declared.receipts.Receipt.TheVariants.{Read}
use Rattle.sci_histories.specs.Table.{AgreesIn}
use Rattle.sci_histories.proofs.Places.{elem_or, looked_or, looked_each}
use Rattle.sci_histories.proofs.tables.list_agrees.Goals as goal

pub returns-then-not-agrees : goal.returns-then-not-agrees
returns-then-not-agrees c = λ all. c.if-not-agrees.ensures (all c.loop-place.place (get_or c.args.receipts.now c.loop-place.place (Read [] 0)) (elem_or c.args.receipts.now c.loop-place.place (Read [] 0) c.loop-place-test.true))

pub loop-place-preserved : goal.loop-place-preserved
loop-place-preserved c = looked_or (λ (x : Receipt). AgreesIn c.args.line.now c.args.words.now x) c.args.receipts.now c.loop-place.place (Read [] 0) c.loop-place-test.true c.if-not-agrees.ensures c.loop-place.invariant

pub returns : goal.returns
returns c = looked_each (λ (x : Receipt). AgreesIn c.args.line.now c.args.words.now x) c.args.receipts.now c.loop-place.place (omega (arith, c.loop-place-test.false, c.loop-place.auto.place-end)) c.loop-place.invariant

pub agrees-requires : goal.agrees-requires
agrees-requires c = c.requires c.loop-place.place (get_or c.args.receipts.now c.loop-place.place (Read [] 0)) (elem_or c.args.receipts.now c.loop-place.place (Read [] 0) c.loop-place-test.true)
