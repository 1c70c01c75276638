use Rattle.std.proofs.Common.{refl}
use Rattle.sci_work.proofs.gates.OpenGateGate.limit.Goals as goal

pub returns : goal.returns
returns c = refl
