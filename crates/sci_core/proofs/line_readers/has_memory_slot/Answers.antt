use Rattle.std.proofs.Common.{rules}
use Rattle.sci_core.proofs.line_readers.has_memory_slot.Goals as goal

pub returns-in_default : goal.returns-in_default
returns-in_default c = search rules
