use Rattle.sci_port.proofs.receipted.ReceiptedPort.stage.Goals as goal

pub returns-clause-value : goal.returns-clause-value
returns-clause-value g c = c.stage.ensures.value
