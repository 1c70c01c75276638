use Rattle.sci_histories.proofs.Places.{decides_same}
use Rattle.sci_histories.proofs.Ordering.{ordered_nodes, ordered_lists}
use Rattle.sci_histories.proofs.ranges.keeps_ordered.Goals as goal

pub returns : goal.returns
returns c = decides_same c.lists_are_ordered.result (ordered_nodes c.args.line.now) (ordered_lists c.args.line.now) (rw c.lists_of.ensures at c.lists_are_ordered.ensures)
