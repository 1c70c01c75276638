use Rattle.std.proofs.Common.{List, arith, ap, length}
use Rattle.sci_core.specs.declared.receipts.Receipt.{Receipt}
use Rattle.sci_histories.proofs.Counts.{count_more}
use Rattle.sci_histories.proofs.tables.left.Goals as goal

pub loop-node-preserved : goal.loop-node-preserved
loop-node-preserved c =
    let m = count_more c.args.lists.now c.loop-node.node c.index-lists-node.result c.loop-node-test.true in
    let a = ap (λ (l : List Receipt). length l) c.receipts.ensures in
    let b = ap (λ (l : List Receipt). length l) c.index-lists-node.is in
    omega (arith, m, a, b, c.loop-node.invariant, c.saturating_sub-left.ensures)
