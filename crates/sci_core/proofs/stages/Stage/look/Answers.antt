use Rattle.std.proofs.Common.{rules}
use Rattle.sci_core.proofs.stages.Stage.look.Goals as goal

pub returns-in-Some : goal.returns-in-Some
returns-in-Some c = search rules
