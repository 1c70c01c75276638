use Rattle.sci_core.proofs.Fitting.{any_event_fits}
use Rattle.sci_port.specs.declared.calls.Call.TheVariants.{Stepped}
use Rattle.sci_shared_tests.proofs.lines.coarse.step.Goals as goal

pub step-requires-clause-fits : goal.step-requires-clause-fits
step-requires-clause-fits c = any_event_fits c.args.event

pub returns-then-allows-clause-logged : goal.returns-then-allows-clause-logged
returns-then-allows-clause-logged c =
    let s = c.args.port.now.seat.now in
    c.law_of_one_run.ensures.logs s.standing.terms s.token.me.0 (Stepped c.args.event c.step.result) c.step.new.self.seat.now.token.me.0 c.step.ensures.gives.2.0.came
