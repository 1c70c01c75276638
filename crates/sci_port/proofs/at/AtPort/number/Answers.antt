use Rattle.sci_port.proofs.at.AtPort.number.Goals as goal

pub returns : goal.returns
returns g c = c.number.ensures
