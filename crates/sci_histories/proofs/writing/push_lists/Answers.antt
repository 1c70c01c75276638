use Rattle.std.proofs.Common.{rules, append_assoc}
use Rattle.sci_histories.proofs.TextLoops.{lists_more, lists_end}
use Rattle.sci_histories.proofs.writing.push_lists.Goals as goal

pub loop-node-preserved : goal.loop-node-preserved
loop-node-preserved c = search (rules, append_assoc, lists_more c.loop-node.node c.args.lists.now c.index-lists-node.result)

pub returns : goal.returns
returns c = search (rules, append_assoc, lists_end c.loop-node.node c.args.lists.now)
