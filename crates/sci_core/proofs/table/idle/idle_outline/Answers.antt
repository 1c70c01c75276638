use Rattle.std.proofs.Common.{refl, rules}
use Rattle.sci_core.proofs.table.idle.idle_outline.Goals as goal

pub returns-in-Queue : goal.returns-in-Queue
returns-in-Queue c = rw (c.in-Queue.is, c.takes.ensures, c.tag.ensures, c.invalid.ensures, c.queued_word.ensures) refl

pub returns-in-BeginPurge : goal.returns-in-BeginPurge
returns-in-BeginPurge c = search rules

pub returns-in-Hold : goal.returns-in-Hold
returns-in-Hold c = search rules
