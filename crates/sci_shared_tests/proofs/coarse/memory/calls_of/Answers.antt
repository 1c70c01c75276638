use Rattle.sci_shared_tests.proofs.coarse.memory.calls_of.Goals as goal

pub step-outcome-requires-clause-fits : goal.step-outcome-requires-clause-fits
step-outcome-requires-clause-fits g c = tt
