use Rattle.std.proofs.Common.{rules}
use Rattle.sci_core.proofs.table.purging.purging_outline.Goals as goal

pub returns-in-PurgeOne-Some-Some : goal.returns-in-PurgeOne-Some-Some
returns-in-PurgeOne-Some-Some c = search rules

pub returns-in-Adopt-Some-Some : goal.returns-in-Adopt-Some-Some
returns-in-Adopt-Some-Some c = search rules
