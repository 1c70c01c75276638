use Rattle.std.proofs.Common.{arith}
use Rattle.std.proofs.lemmas.Grind.{common_steps}
use Rattle.sci_core.proofs.line_readers.memory_in_hand.Goals as goal

pub returns-then-has_memory_slot : goal.returns-then-has_memory_slot
returns-then-has_memory_slot c = grind (arith, common_steps)
