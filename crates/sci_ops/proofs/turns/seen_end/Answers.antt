use Rattle.std.proofs.Common.{ap, sym}
use Rattle.sci_ops.specs.Table.{seen_end}
use Rattle.sci_ops.proofs.turns.seen_end.Goals as goal

pub returns-in-Load : goal.returns-in-Load
returns-in-Load c = ap seen_end (sym c.in-Load.is)
