use Rattle.std.proofs.Common.{rules}
use Rattle.sci_port.proofs.solo.SoloPort.tag.Goals as goal

pub returns-clause-gives : goal.returns-clause-gives
returns-clause-gives g c = search rules
