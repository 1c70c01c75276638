use Rattle.std.proofs.Common.{rules}
use Rattle.sci_coarse.proofs.standing.keeps_line.Goals as goal

pub returns : goal.returns
returns c = search rules
