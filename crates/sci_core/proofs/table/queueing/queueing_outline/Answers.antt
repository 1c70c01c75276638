use Rattle.std.proofs.Common.{rules}
use Rattle.sci_core.proofs.table.queueing.queueing_outline.Goals as goal

pub returns-in-Some : goal.returns-in-Some
returns-in-Some c = search rules

pub returns-in-PrependValid : goal.returns-in-PrependValid
returns-in-PrependValid c = search rules

pub returns-in-None-forw : goal.returns-in-None-forw
returns-in-None-forw c = search rules
