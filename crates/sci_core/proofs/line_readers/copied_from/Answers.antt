use Rattle.std.proofs.Common.{arith}
use Rattle.std.proofs.lemmas.Grind.{common_steps}
use Rattle.sci_core.proofs.line_readers.copied_from.Goals as goal

pub returns-then-copies : goal.returns-then-copies
returns-then-copies c = grind (arith, common_steps)
