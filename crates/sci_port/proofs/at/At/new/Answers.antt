use Rattle.std.proofs.Common.{refl}
use Rattle.sci_port.proofs.at.At.new.Goals as goal

pub returns-clause-line : goal.returns-clause-line
returns-clause-line g c = refl
