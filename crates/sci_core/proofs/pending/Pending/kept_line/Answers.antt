use Rattle.std.proofs.Common.{rules}
use Rattle.sci_core.proofs.pending.Pending.kept_line.Goals as goal

pub returns-in-Holding : goal.returns-in-Holding
returns-in-Holding c = search rules
