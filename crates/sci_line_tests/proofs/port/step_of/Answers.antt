use Rattle.sci_core.proofs.Fitting.{any_event_fits}
use Rattle.sci_line_tests.proofs.port.step_of.Goals as goal

pub step-requires-clause-fits : goal.step-requires-clause-fits
step-requires-clause-fits g c = any_event_fits c.args.event
