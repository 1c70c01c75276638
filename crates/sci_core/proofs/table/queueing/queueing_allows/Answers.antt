use Rattle.std.proofs.Common.{rules}
use Rattle.sci_core.proofs.table.queueing.queueing_allows.Goals as goal

pub returns-in-Requeue : goal.returns-in-Requeue
returns-in-Requeue c = search rules

pub returns-in-HomeWrite : goal.returns-in-HomeWrite
returns-in-HomeWrite c = search rules
