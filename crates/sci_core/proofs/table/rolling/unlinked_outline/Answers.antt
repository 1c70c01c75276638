use Rattle.std.proofs.Common.{rules}
use Rattle.sci_core.proofs.table.rolling.unlinked_outline.Goals as goal

pub returns-in-Rolled : goal.returns-in-Rolled
returns-in-Rolled c = search rules
