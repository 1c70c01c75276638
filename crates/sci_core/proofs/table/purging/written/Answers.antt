use Rattle.std.proofs.Common.{rules}
use Rattle.sci_core.proofs.table.purging.written.Goals as goal

pub returns-in-Some : goal.returns-in-Some
returns-in-Some c = search rules
