use Rattle.std.proofs.Common.{refl}
use Rattle.sci_port.proofs.at.AtPort.mem.Goals as goal

pub returns-clause-gives : goal.returns-clause-gives
returns-clause-gives g c = (refl, refl, c.mem.ensures.gives)

pub returns-clause-form : goal.returns-clause-form
returns-clause-form g c = c.mem.ensures.form
