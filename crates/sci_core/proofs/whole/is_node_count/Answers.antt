use Rattle.std.proofs.Common.{rules}
use Rattle.sci_core.proofs.whole.is_node_count.Goals as goal

pub returns-then-nodes-ne0-clause-good : goal.returns-then-nodes-ne0-clause-good
returns-then-nodes-ne0-clause-good c = search rules
