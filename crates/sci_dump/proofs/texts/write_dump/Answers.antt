use Rattle.std.proofs.Common.{arith}
use Rattle.std.proofs.lemmas.Grind.{common_steps}
use Rattle.sci_dump.specs.Text.{dump_text, head_text}
use Rattle.sci_dump.proofs.texts.write_dump.Goals as goal

pub returns : goal.returns
unfolding dump_text head_text
returns c = grind (arith, common_steps)
