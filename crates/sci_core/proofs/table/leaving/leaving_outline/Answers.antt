use Rattle.std.proofs.Common.{rules}
use Rattle.sci_core.proofs.table.leaving.leaving_outline.Goals as goal

pub returns-in-ReturnHomeDirty-Some-None : goal.returns-in-ReturnHomeDirty-Some-None
returns-in-ReturnHomeDirty-Some-None c = search rules

pub returns-in-Promote-Some-Some : goal.returns-in-Promote-Some-Some
returns-in-Promote-Some-Some c = search rules

pub returns-in-Stay-Some : goal.returns-in-Stay-Some
returns-in-Stay-Some c = search rules
