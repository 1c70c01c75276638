use Rattle.std.proofs.Common.{◌-◌, ◌+◌, length, arith, rules}
use Rattle.sci_histories.specs.Reading.{receipts_at}
use Rattle.sci_histories.proofs.Looping.{receipt_more, receipt_fault, receipts_other, receipts_done}
use Rattle.sci_histories.proofs.reader.read_receipts.Goals as goal

pub returns-then-not-begins : goal.returns-then-not-begins
returns-then-not-begins c = receipts_other c.loop.receipts.items (length c.args.text.now - c.loop.counter) (length c.args.text.now - (c.loop.counter + 1)) c.args.node c.loop.at c.loop.rest.now (receipts_at (length c.args.text.now) c.args.node c.args.number c.args.text.now) (omega (arith, c.loop-test.true)) (search rules) c.loop.invariant

pub returns-in_default : goal.returns-in_default
returns-in_default c = receipt_fault c.loop.receipts.items (length c.args.text.now - c.loop.counter) (length c.args.text.now - (c.loop.counter + 1)) c.args.node c.loop.at c.loop.rest.now (receipts_at (length c.args.text.now) c.args.node c.args.number c.args.text.now) (omega (arith, c.loop-test.true)) (search rules) c.in_default.ensures c.loop.invariant

pub loop-preserved : goal.loop-preserved
loop-preserved c =
    rw (c.in_ok-push.ensures.items, c.next-at.ensures) (receipt_more c.loop.receipts.items (length c.args.text.now - c.loop.counter) (length c.args.text.now - (c.loop.counter + 1)) c.args.node c.loop.at c.loop.rest.now (c.in-Some.receipt, c.in-Some.behind.now) (receipts_at (length c.args.text.now) c.args.node c.args.number c.args.text.now) (omega (arith, c.loop-test.true)) (search rules) c.in-Some.ensures c.loop.invariant)

pub returns : goal.returns
returns c = receipts_done c.loop.receipts.items (length c.args.text.now - c.loop.counter) c.args.node c.loop.at c.loop.rest.now (receipts_at (length c.args.text.now) c.args.node c.args.number c.args.text.now) (omega (arith, c.loop-test.false, c.loop.auto.counter-end)) c.loop.invariant
