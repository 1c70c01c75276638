use Rattle.std.proofs.Common.{rules}
use Rattle.sci_work.proofs.stencils.running.is_stencil_size.Goals as goal

pub returns-then-capacity-ge1 : goal.returns-then-capacity-ge1
returns-then-capacity-ge1 c = search rules
