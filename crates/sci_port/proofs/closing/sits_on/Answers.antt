use Rattle.std.proofs.Common.{rules}
use Rattle.sci_port.proofs.closing.sits_on.Goals as goal

pub returns-then-from-place : goal.returns-then-from-place
returns-then-from-place g c = search rules

pub returns-else-from-place : goal.returns-else-from-place
returns-else-from-place g c = search rules
