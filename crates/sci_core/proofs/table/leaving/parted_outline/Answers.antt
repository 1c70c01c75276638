use Rattle.std.proofs.Common.{rules}
use Rattle.sci_core.proofs.table.leaving.parted_outline.Goals as goal

pub returns-in-Left : goal.returns-in-Left
returns-in-Left c = search rules
