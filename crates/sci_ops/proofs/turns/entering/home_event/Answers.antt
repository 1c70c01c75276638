use Rattle.std.proofs.Common.{rules}
use Rattle.sci_ops.proofs.turns.entering.home_event.Goals as goal

pub returns-in-Write : goal.returns-in-Write
returns-in-Write c = search rules

pub returns-in-Load : goal.returns-in-Load
returns-in-Load c = search rules
