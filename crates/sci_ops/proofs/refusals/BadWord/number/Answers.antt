use Rattle.std.proofs.Common.{refl}
use Rattle.sci_ops.proofs.refusals.BadWord.number.Goals as goal

pub returns : goal.returns
returns c = refl
