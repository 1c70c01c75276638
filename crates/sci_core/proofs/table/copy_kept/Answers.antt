use Rattle.std.proofs.Common.{rules}
use Rattle.sci_core.proofs.table.copy_kept.Goals as goal

pub returns-then-has_copy : goal.returns-then-has_copy
returns-then-has_copy c = search rules

pub returns-else-has_copy : goal.returns-else-has_copy
returns-else-has_copy c = search rules
