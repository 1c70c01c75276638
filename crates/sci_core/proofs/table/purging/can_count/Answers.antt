use Rattle.std.proofs.Common.{rules}
use Rattle.sci_core.proofs.table.purging.can_count.Goals as goal

pub returns : goal.returns
returns c = search rules
