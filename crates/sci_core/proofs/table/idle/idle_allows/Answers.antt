use Rattle.std.proofs.Common.{rules}
use Rattle.sci_core.proofs.table.idle.idle_allows.Goals as goal

pub returns-in-Leave : goal.returns-in-Leave
returns-in-Leave c = search rules
