use Rattle.std.proofs.Common.{rules}
use Rattle.sci_work.proofs.gates.OpenGateGate.may_start.Goals as goal

pub returns : goal.returns
returns c = search rules
