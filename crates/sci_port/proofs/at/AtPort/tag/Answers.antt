use Rattle.std.proofs.Common.{refl}
use Rattle.sci_port.proofs.at.AtPort.tag.Goals as goal

pub tag-requires-clause-node : goal.tag-requires-clause-node
tag-requires-clause-node g c = c.requires

pub returns-clause-gives : goal.returns-clause-gives
returns-clause-gives g c = (refl, refl, c.tag.ensures.gives)

pub returns-clause-form : goal.returns-clause-form
returns-clause-form g c = c.tag.ensures.form
