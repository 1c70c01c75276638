use Rattle.std.proofs.Common.{refl}
use Rattle.sci_trace.specs.Pages.{play_seam}
use Rattle.sci_trace.proofs.drawing.play_seam.Goals as goal

pub returns : goal.returns
unfolding play_seam
returns c = refl
