use Rattle.std.proofs.Common.{arith}
use Rattle.std.proofs.lemmas.Grind.{common_steps}
use Rattle.sci_histories.specs.Text.{history_text}
use Rattle.sci_histories.proofs.writing.history_text.Goals as goal

pub returns : goal.returns
unfolding history_text
returns c = grind (arith, common_steps)
