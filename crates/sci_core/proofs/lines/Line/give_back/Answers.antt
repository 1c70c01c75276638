use Rattle.std.proofs.Common.{rules}
use Rattle.sci_core.proofs.lines.Line.give_back.Goals as goal

pub returns-in-Left : goal.returns-in-Left
returns-in-Left c = search rules
