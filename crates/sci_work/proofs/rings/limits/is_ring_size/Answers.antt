use Rattle.std.proofs.Common.{rules}
use Rattle.sci_work.proofs.rings.limits.is_ring_size.Goals as goal

pub returns-then-lines-ge1 : goal.returns-then-lines-ge1
returns-then-lines-ge1 c = search rules
