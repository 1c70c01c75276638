use Rattle.std.proofs.Common.{refl}
use Rattle.sci_trace.specs.Pages.{page_seam}
use Rattle.sci_trace.proofs.drawing.seam.Goals as goal

pub returns : goal.returns
unfolding page_seam
returns c = refl
