use Rattle.std.proofs.Common.{ℕ, List, arith, subst, sym}
use Rattle.sci_core.specs.declared.receipts.Receipt.{Receipt}
use Rattle.sci_port.proofs.Elements.{at_index, looked_at, looked_all}
use Rattle.sci_histories.specs.Rules.{IsOrdered}
use Rattle.sci_histories.proofs.ranges.lists_are_ordered.Goals as goal

pub returns-then-not-list_is_ordered : goal.returns-then-not-list_is_ordered
returns-then-not-list_is_ordered c =
    λ all. c.if-not-list_is_ordered.ensures (subst (IsOrdered) (sym c.receipts.ensures) (all c.loop-node.node c.index-lists-node.result (at_index c.args.lists.now c.loop-node.node c.index-lists-node.result c.loop-node-test.true c.index-lists-node.is)))

pub loop-node-preserved : goal.loop-node-preserved
loop-node-preserved c =
    looked_at (λ (k : ℕ) (l : List Receipt). IsOrdered l) c.args.lists.now c.loop-node.node c.index-lists-node.result c.loop-node-test.true c.index-lists-node.is (subst (IsOrdered) c.receipts.ensures c.if-not-list_is_ordered.ensures) c.loop-node.invariant

pub returns : goal.returns
returns c = looked_all (λ (k : ℕ) (l : List Receipt). IsOrdered l) c.args.lists.now c.loop-node.node (omega (arith, c.loop-node-test.false, c.loop-node.auto.node-end)) c.loop-node.invariant
