use Rattle.std.proofs.Common.{rules}
use Rattle.sci_core.proofs.outcomes.OpenRefusal.number.Goals as goal

pub returns-in-BadNodes : goal.returns-in-BadNodes
returns-in-BadNodes c = search rules
