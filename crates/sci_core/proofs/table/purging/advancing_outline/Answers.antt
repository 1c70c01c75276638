use Rattle.std.proofs.Common.{rules}
use Rattle.sci_core.proofs.table.purging.advancing_outline.Goals as goal

pub returns-in-Advance : goal.returns-in-Advance
returns-in-Advance c = search rules
