use Rattle.sci_port.proofs.at.AtPort.nodes.Goals as goal

pub returns : goal.returns
returns g c = c.nodes.ensures
