use Rattle.std.proofs.Common.{rules}
use Rattle.sci_core.proofs.outlines.Outline.write_own.Goals as goal

pub returns-in-Takes-Node : goal.returns-in-Takes-Node
returns-in-Takes-Node c = search rules
