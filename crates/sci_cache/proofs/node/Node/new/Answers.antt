use Rattle.std.proofs.Common.{rules}
use Rattle.sci_cache.proofs.node.Node.new.Goals as goal

pub returns-then-capacity-gt1024-clause-capacity : goal.returns-then-capacity-gt1024-clause-capacity
returns-then-capacity-gt1024-clause-capacity c = search rules

pub returns-in_default-sparse-clause-capacity : goal.returns-in_default-sparse-clause-capacity
returns-in_default-sparse-clause-capacity c = search rules

pub returns-clause-capacity : goal.returns-clause-capacity
returns-clause-capacity c = search rules

pub returns-clause-made : goal.returns-clause-made
returns-clause-made c = search rules
