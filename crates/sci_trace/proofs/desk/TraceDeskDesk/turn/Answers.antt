use Rattle.sci_trace.proofs.desk.TraceDeskDesk.turn.Goals as goal

pub returns-clause-turned : goal.returns-clause-turned
returns-clause-turned c = (c.take.ensures.turned, c.take.ensures.told)
