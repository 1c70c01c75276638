use Rattle.sci_core.proofs.Fitting.{any_event_fits}
use Rattle.sci_shared_tests.proofs.lines.step.Goals as goal

pub step-requires-clause-fits : goal.step-requires-clause-fits
step-requires-clause-fits g c = any_event_fits c.args.event
