use Rattle.std.proofs.Common.{refl}
use Rattle.sci_port.proofs.solo.SoloPort.node.Goals as goal

pub returns-clause-value : goal.returns-clause-value
returns-clause-value g c = refl
