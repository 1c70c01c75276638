use Rattle.sci_port.proofs.at.AtPort.stage.Goals as goal

pub returns-clause-value : goal.returns-clause-value
returns-clause-value g c = c.stage.ensures.value

pub returns-clause-sound : goal.returns-clause-sound
returns-clause-sound g c = c.stage.ensures.sound
