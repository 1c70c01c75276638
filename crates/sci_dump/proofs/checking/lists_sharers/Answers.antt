use Rattle.sci_dump.proofs.Deciding.{IsListed, each_more}
use Rattle.sci_dump.proofs.checking.lists_sharers.Goals as goal

pub loop-node-preserved : goal.loop-node-preserved
loop-node-preserved c = each_more (IsListed c.args.closed.now) c.loop-node.node c.loop-node.invariant c.if-not-is_listed.ensures
