use Rattle.std.proofs.Common.{◌∙◌}
use Rattle.sci_trace.proofs.drawing.put_play.Goals as goal

pub returns : goal.returns
returns g c =
    rw (c.as_bytes.ensures.value ∙ c.play_front.ensures, c.as_bytes-2.ensures.value ∙ c.play_seam.ensures, c.as_bytes-3.ensures.value ∙ c.play_end.ensures) at c.put_in.ensures
