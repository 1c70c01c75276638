use Rattle.std.proofs.Common.{rules}
use Rattle.sci_ops.proofs.goals.WordNo.new.Goals as goal

pub invariant_of-result : goal.invariant_of-result
invariant_of-result c = search rules

pub returns-clause-refused : goal.returns-clause-refused
returns-clause-refused c = search rules
