use Rattle.sci_port.proofs.solo_bank.SoloBankBank.pending.Goals as goal

pub returns-clause-value : goal.returns-clause-value
returns-clause-value g c = c.step_on.ensures

pub returns-clause-sound : goal.returns-clause-sound
returns-clause-sound g c = rw c.step_on.ensures c.stage.ensures.sound
