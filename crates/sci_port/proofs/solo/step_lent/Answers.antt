use Rattle.sci_port.proofs.Lent.{step_gives}
use Rattle.sci_port.proofs.solo.step_lent.Goals as goal

pub returns : goal.returns
returns g c = λ name. step_gives g.K.Keeps.fits c.args.whole.now c.step.new.self c.args.node c.in-Ok.ensures.same name c.args.event c.in-Ok.outcome c.requires.allowed c.in-Ok.ensures.answers c.in-Ok.ensures.lawful
