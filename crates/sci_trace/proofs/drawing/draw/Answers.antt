use Rattle.std.proofs.Common.{◌∙◌}
use Rattle.sci_trace.proofs.drawing.draw.Goals as goal

pub returns : goal.returns
returns g c =
    rw (c.as_bytes.ensures.value ∙ c.front.ensures, c.as_bytes-2.ensures.value ∙ c.seam.ensures, c.as_bytes-3.ensures.value ∙ c.end.ensures) at c.draw_in.ensures
