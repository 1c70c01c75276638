use Rattle.std.proofs.Common.{rules}
use Rattle.sci_core.proofs.table.queueing.fetching_outline.Goals as goal

pub returns-in-ReturnMemory : goal.returns-in-ReturnMemory
returns-in-ReturnMemory c = search rules
