use Rattle.sci_trace.proofs.steps.push_step.Goals as goal

pub returns-in-Converting : goal.returns-in-Converting
returns-in-Converting c = rw c.in-Converting.is c.push_marked-in-Converting.ensures

pub returns-in-WritingBack : goal.returns-in-WritingBack
returns-in-WritingBack c = rw c.in-WritingBack.is c.push-in-WritingBack.ensures
