use Rattle.sci_shared_tests.proofs.lines.turning.turn_in.Goals as goal

pub step-looked-requires-clause-fits : goal.step-looked-requires-clause-fits
step-looked-requires-clause-fits g c = tt
