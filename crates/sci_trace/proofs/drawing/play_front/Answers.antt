use Rattle.std.proofs.Common.{refl}
use Rattle.sci_trace.specs.Pages.{play_front}
use Rattle.sci_trace.proofs.drawing.play_front.Goals as goal

pub returns : goal.returns
unfolding play_front
returns c = refl
