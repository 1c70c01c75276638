use Rattle.std.proofs.Common.{rules}
use Rattle.sci_core.proofs.outcomes.NotInTurn.number.Goals as goal

pub returns : goal.returns
returns c = search rules
