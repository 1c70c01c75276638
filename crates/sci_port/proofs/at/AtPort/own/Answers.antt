use Rattle.std.proofs.Common.{refl}
use Rattle.sci_port.proofs.at.AtPort.own.Goals as goal

pub returns-clause-gives : goal.returns-clause-gives
returns-clause-gives g c = (refl, refl, c.own.ensures.gives)

pub returns-clause-look : goal.returns-clause-look
returns-clause-look g c = c.own.ensures.look

pub returns-clause-own : goal.returns-clause-own
returns-clause-own g c = c.own.ensures.own

pub returns-clause-form : goal.returns-clause-form
returns-clause-form g c = c.own.ensures.form
