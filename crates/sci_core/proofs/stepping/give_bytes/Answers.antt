use Rattle.std.proofs.Common.{arith}
use Rattle.std.proofs.lemmas.Grind.{common_steps}
use Rattle.sci_core.proofs.stepping.give_bytes.Goals as goal

pub returns-in-Node-clause-lines : goal.returns-in-Node-clause-lines
returns-in-Node-clause-lines c = λ s. grind (arith, common_steps)
