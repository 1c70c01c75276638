use Rattle.std.proofs.Common.{rules}
use Rattle.sci_core.proofs.table.in_queue.in_queue_outline.Goals as goal

pub returns-in-AttachFresh-Some-true : goal.returns-in-AttachFresh-Some-true
returns-in-AttachFresh-Some-true c = search rules

pub returns-in-AttachDirty-Some-false : goal.returns-in-AttachDirty-Some-false
returns-in-AttachDirty-Some-false c = search rules
