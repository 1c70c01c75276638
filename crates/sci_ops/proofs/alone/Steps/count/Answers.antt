use Rattle.std.proofs.Common.{rules}
use Rattle.sci_ops.proofs.alone.Steps.count.Goals as goal

pub returns : goal.returns
returns g c = search rules
