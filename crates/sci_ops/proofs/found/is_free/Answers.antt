use Rattle.std.proofs.Common.{rules}
use Rattle.sci_ops.proofs.found.is_free.Goals as goal

pub returns-then-is_of_kind : goal.returns-then-is_of_kind
returns-then-is_of_kind c = search rules
