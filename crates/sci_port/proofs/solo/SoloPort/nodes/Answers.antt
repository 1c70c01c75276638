use Rattle.sci_port.proofs.solo.SoloPort.nodes.Goals as goal

pub returns : goal.returns
returns g c = c.nodes.ensures.nodes
