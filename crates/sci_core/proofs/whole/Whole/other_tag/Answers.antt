use Rattle.std.proofs.Common.{rules}
use Rattle.sci_core.proofs.whole.Whole.other_tag.Goals as goal

pub returns-else-is_same : goal.returns-else-is_same
returns-else-is_same g c = search rules
