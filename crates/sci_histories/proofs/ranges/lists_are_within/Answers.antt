use Rattle.std.proofs.Common.{ℕ, List, arith, subst, sym}
use Rattle.sci_core.specs.declared.receipts.Receipt.{Receipt}
use Rattle.sci_port.proofs.Elements.{at_index, looked_at, looked_all}
use Rattle.sci_histories.specs.Each.{Each}
use Rattle.sci_histories.specs.Rules.{IsWithin}
use Rattle.sci_histories.proofs.ranges.lists_are_within.Goals as goal

pub returns-then-not-list_is_within : goal.returns-then-not-list_is_within
returns-then-not-list_is_within c =
    λ all. c.if-not-list_is_within.ensures (subst (Each (IsWithin c.args.first c.args.last)) (sym c.receipts.ensures) (all c.loop-node.node c.index-lists-node.result (at_index c.args.lists.now c.loop-node.node c.index-lists-node.result c.loop-node-test.true c.index-lists-node.is)))

pub loop-node-preserved : goal.loop-node-preserved
loop-node-preserved c =
    looked_at (λ (k : ℕ) (l : List Receipt). Each (IsWithin c.args.first c.args.last) l) c.args.lists.now c.loop-node.node c.index-lists-node.result c.loop-node-test.true c.index-lists-node.is (subst (Each (IsWithin c.args.first c.args.last)) c.receipts.ensures c.if-not-list_is_within.ensures) c.loop-node.invariant

pub returns : goal.returns
returns c = looked_all (λ (k : ℕ) (l : List Receipt). Each (IsWithin c.args.first c.args.last) l) c.args.lists.now c.loop-node.node (omega (arith, c.loop-node-test.false, c.loop-node.auto.node-end)) c.loop-node.invariant
