use Rattle.std.proofs.Common.{refl}
use Rattle.sci_port.proofs.at.AtPort.step.Goals as goal

pub step-requires-clause-allowed : goal.step-requires-clause-allowed
step-requires-clause-allowed g c = c.requires.allowed

pub step-requires-clause-fits : goal.step-requires-clause-fits
step-requires-clause-fits g c = c.requires.fits

pub returns-clause-gives : goal.returns-clause-gives
returns-clause-gives g c = (refl, refl, c.step.ensures.gives)

pub returns-clause-row : goal.returns-clause-row
returns-clause-row g c = c.step.ensures.row

pub returns-clause-content : goal.returns-clause-content
returns-clause-content g c = c.step.ensures.content
