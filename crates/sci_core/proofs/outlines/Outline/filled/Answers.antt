use Rattle.std.proofs.Common.{rules}
use Rattle.sci_core.proofs.outlines.Outline.filled.Goals as goal

pub returns : goal.returns
returns c = search rules
