use Rattle.std.proofs.Common.{rules}
use Rattle.sci_coarse.proofs.standing.write_kept.Goals as goal

pub returns-in-Holding : goal.returns-in-Holding
returns-in-Holding c = search rules
