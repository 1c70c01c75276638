use Rattle.std.proofs.Common.{rules}
use Rattle.sci_core.proofs.table.rolling.rolling_outline.Goals as goal

pub returns-in-TellPredecessor-Some : goal.returns-in-TellPredecessor-Some
returns-in-TellPredecessor-Some c = search rules

pub returns-in-TellSuccessor-Some-Some-default : goal.returns-in-TellSuccessor-Some-Some-default
returns-in-TellSuccessor-Some-Some-default c = search rules
