use Rattle.std.proofs.Common.{refl}
use Rattle.sci_trace.specs.Pages.{page_front}
use Rattle.sci_trace.proofs.drawing.front.Goals as goal

pub returns : goal.returns
unfolding page_front
returns c = refl
