use Rattle.std.proofs.Common.{rules, append_assoc}
use Rattle.sci_words.specs.declared.layouts.Layout.TheVariants.{Two}
use Rattle.sci_dump.proofs.Writing.{nodes_more, nodes_end}
use Rattle.sci_dump.proofs.texts.push_nodes.Goals as goal

pub loop-node-preserved : goal.loop-node-preserved
loop-node-preserved c =
    search (rules, append_assoc, nodes_more Two c.args.number c.loop-node.node c.args.closed.now.tags c.args.closed.now.lines c.index.result.now c.index-in-loop-node.result.now)

pub returns : goal.returns
returns c = search (rules, append_assoc, nodes_end Two c.args.number c.loop-node.node c.args.closed.now.tags)
