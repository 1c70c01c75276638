use Rattle.std.proofs.Common.{rules, append_assoc}
use Rattle.sci_script.proofs.texts.wrote_text.Goals as goal

pub returns : goal.returns
returns c = search (rules, append_assoc)
