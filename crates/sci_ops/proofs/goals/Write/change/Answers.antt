use Rattle.std.proofs.Common.{rules}
use Rattle.sci_ops.proofs.goals.Write.change.Goals as goal

pub returns-in-Store : goal.returns-in-Store
returns-in-Store c = search rules

pub returns-in-Add : goal.returns-in-Add
returns-in-Add c = search rules

pub returns-in-Line : goal.returns-in-Line
returns-in-Line c = search rules
