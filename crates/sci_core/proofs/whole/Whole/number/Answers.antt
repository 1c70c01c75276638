use Rattle.std.proofs.Common.{rules}
use Rattle.sci_core.proofs.whole.Whole.number.Goals as goal

pub returns : goal.returns
returns g c = search rules
