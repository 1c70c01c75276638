use Rattle.std.proofs.Common.{arith}
use Rattle.std.proofs.lemmas.Grind.{common_steps}
use Rattle.sci_core.proofs.stepping.give.Goals as goal

pub returns-in-Written-Some : goal.returns-in-Written-Some
returns-in-Written-Some c = grind (arith, common_steps)
