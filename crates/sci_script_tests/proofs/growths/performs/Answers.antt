use Rattle.sci_script.proofs.Runs.{command_fits}
use Rattle.sci_script_tests.proofs.growths.performs.Goals as goal

pub perform-performed-requires-clause-command : goal.perform-performed-requires-clause-command
perform-performed-requires-clause-command g c =
    let script = c.args.script.now in
    command_fits script.size c.loop-step.desk.size c.steps-step-items.result.now script.steps.items c.loop-step.step-index c.step-item.result script.fits c.steps-step-items.ensures c.loop-step-test.true c.step-item.is c.loop-step.invariant.size
