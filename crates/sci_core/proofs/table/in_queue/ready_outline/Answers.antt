use Rattle.std.proofs.Common.{refl}
use Rattle.sci_core.proofs.table.in_queue.ready_outline.Goals as goal

pub returns-in-Settle : goal.returns-in-Settle
returns-in-Settle c = λ l. rw (c.in-Settle.is, c.answering.ensures, c.gives.ensures, c.tag-change.ensures, c.queued_word.ensures, c.settled_word.ensures) refl
