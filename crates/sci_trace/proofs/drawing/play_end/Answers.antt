use Rattle.std.proofs.Common.{refl}
use Rattle.sci_trace.specs.Pages.{play_end}
use Rattle.sci_trace.proofs.drawing.play_end.Goals as goal

pub returns : goal.returns
unfolding play_end
returns c = refl
