use Rattle.std.proofs.Common.{rules}
use Rattle.sci_core.proofs.table.idle.roll_outline.Goals as goal

pub returns : goal.returns
returns c = search rules
