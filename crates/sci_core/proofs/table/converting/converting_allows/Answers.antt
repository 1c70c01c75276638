use Rattle.std.proofs.Common.{rules}
use Rattle.sci_core.proofs.table.converting.converting_allows.Goals as goal

pub returns-in-Converted : goal.returns-in-Converted
returns-in-Converted c = search rules

pub returns-in-FreshToGone : goal.returns-in-FreshToGone
returns-in-FreshToGone c = search rules
