use Rattle.std.proofs.Common.{rules}
use Rattle.sci_core.proofs.stages.Stage.allows.Goals as goal

pub returns-then-is_look : goal.returns-then-is_look
returns-then-is_look c = search rules
