use Rattle.sci_port.proofs.at.AtPort.node.Goals as goal

pub returns-clause-value : goal.returns-clause-value
returns-clause-value g c = c.node.ensures.value

pub returns-clause-below : goal.returns-clause-below
returns-clause-below g c = c.node.ensures.below c.args.self.now.line c.args.self.now.below
