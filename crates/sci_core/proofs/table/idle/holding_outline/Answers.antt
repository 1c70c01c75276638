use Rattle.std.proofs.Common.{rules}
use Rattle.sci_core.proofs.table.idle.holding_outline.Goals as goal

pub returns-in-Unhold : goal.returns-in-Unhold
returns-in-Unhold c = search rules
