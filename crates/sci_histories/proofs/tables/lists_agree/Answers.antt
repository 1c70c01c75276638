use Rattle.std.proofs.Common.{ℕ, List, arith, subst, sym}
use Rattle.sci_core.specs.declared.receipts.Receipt.{Receipt}
use Rattle.sci_port.proofs.Elements.{at_index, looked_at, looked_all}
use Rattle.sci_histories.specs.Each.{Each}
use Rattle.sci_histories.specs.Rules.{IsWithin}
use Rattle.sci_histories.specs.Table.{AgreesIn}
use Rattle.sci_histories.proofs.tables.lists_agree.Goals as goal

pub returns-then-not-list_agrees : goal.returns-then-not-list_agrees
returns-then-not-list_agrees c =
    λ all. c.if-not-list_agrees.ensures (subst (Each (AgreesIn c.args.line.now c.args.words.now)) (sym c.receipts.ensures) (all c.loop-node.node c.index-lists-node.result (at_index c.args.lists.now c.loop-node.node c.index-lists-node.result c.loop-node-test.true c.index-lists-node.is)))

pub loop-node-preserved : goal.loop-node-preserved
loop-node-preserved c =
    looked_at (λ (k : ℕ) (l : List Receipt). Each (AgreesIn c.args.line.now c.args.words.now) l) c.args.lists.now c.loop-node.node c.index-lists-node.result c.loop-node-test.true c.index-lists-node.is (subst (Each (AgreesIn c.args.line.now c.args.words.now)) c.receipts.ensures c.if-not-list_agrees.ensures) c.loop-node.invariant

pub returns : goal.returns
returns c = looked_all (λ (k : ℕ) (l : List Receipt). Each (AgreesIn c.args.line.now c.args.words.now) l) c.args.lists.now c.loop-node.node (omega (arith, c.loop-node-test.false, c.loop-node.auto.node-end)) c.loop-node.invariant

pub list_agrees-requires : goal.list_agrees-requires
list_agrees-requires c =
    subst (Each (IsWithin c.args.line.now.opening.stamp c.args.line.now.closing.stamp)) (sym c.receipts.ensures) (c.requires c.loop-node.node c.index-lists-node.result (at_index c.args.lists.now c.loop-node.node c.index-lists-node.result c.loop-node-test.true c.index-lists-node.is))
