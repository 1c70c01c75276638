use Rattle.std.proofs.Common.{rules}
use Rattle.sci_ops.proofs.answers.End.kind_after.Goals as goal

pub returns-in_default : goal.returns-in_default
returns-in_default c = search rules

pub returns-in-Seen-Some : goal.returns-in-Seen-Some
returns-in-Seen-Some c = search rules

pub returns-in-Out-default : goal.returns-in-Out-default
returns-in-Out-default c = search rules
