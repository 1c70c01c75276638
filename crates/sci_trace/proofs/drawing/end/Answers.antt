use Rattle.std.proofs.Common.{refl}
use Rattle.sci_trace.specs.Pages.{page_end}
use Rattle.sci_trace.proofs.drawing.end.Goals as goal

pub returns : goal.returns
unfolding page_end
returns c = refl
