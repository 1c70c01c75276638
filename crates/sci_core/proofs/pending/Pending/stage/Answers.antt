use Rattle.std.proofs.Common.{rules}
use Rattle.sci_core.proofs.pending.Pending.stage.Goals as goal

pub returns-in-InQueue : goal.returns-in-InQueue
returns-in-InQueue c = search rules
