use Rattle.sci_port.proofs.solo.SoloPort.number.Goals as goal

pub returns : goal.returns
returns g c = c.number.ensures
