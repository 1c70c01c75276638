use Rattle.std.proofs.Common.{rules}
use Rattle.sci_core.proofs.table.leaving.stands_behind.Goals as goal

pub returns-then-settled_body : goal.returns-then-settled_body
returns-then-settled_body c = search rules
