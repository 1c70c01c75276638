use Rattle.std.proofs.Common.{rules}
use Rattle.sci_core.proofs.table.queueing.home_write.Goals as goal

pub returns : goal.returns
returns c = search rules
