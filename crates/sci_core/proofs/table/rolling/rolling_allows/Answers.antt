use Rattle.std.proofs.Common.{rules}
use Rattle.sci_core.proofs.table.rolling.rolling_allows.Goals as goal

pub returns-then-tellable : goal.returns-then-tellable
returns-then-tellable c = search rules
