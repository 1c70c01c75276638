use Rattle.std.proofs.Common.{rules}
use Rattle.sci_core.proofs.table.purging.purging_allows.Goals as goal

pub returns-then-is_none : goal.returns-then-is_none
returns-then-is_none c = search rules

pub returns-else-is_none : goal.returns-else-is_none
returns-else-is_none c = search rules

pub returns-then-rolling : goal.returns-then-rolling
returns-then-rolling c = search rules
