use Rattle.std.proofs.Common.{rules}
use Rattle.sci_core.proofs.table.leaving.promoted_outline.Goals as goal

pub returns-in-PassOn : goal.returns-in-PassOn
returns-in-PassOn c = search rules

pub returns-in-ReEnter : goal.returns-in-ReEnter
returns-in-ReEnter c = search rules
