use Rattle.std.proofs.Common.{rules}
use Rattle.sci_core.proofs.table.found.may_be_carried.Goals as goal

pub returns-then-not-tag : goal.returns-then-not-tag
returns-then-not-tag c = search rules

pub returns-else-not-tag : goal.returns-else-not-tag
returns-else-not-tag c = search rules
