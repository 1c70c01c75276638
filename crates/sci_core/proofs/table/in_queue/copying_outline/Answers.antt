use Rattle.std.proofs.Common.{rules}
use Rattle.sci_core.proofs.table.in_queue.copying_outline.Goals as goal

pub returns-in-ReturnCopy : goal.returns-in-ReturnCopy
returns-in-ReturnCopy c = search rules
