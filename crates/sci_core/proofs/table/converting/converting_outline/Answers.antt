use Rattle.std.proofs.Common.{rules}
use Rattle.sci_core.proofs.table.converting.converting_outline.Goals as goal

pub returns-in-Converted : goal.returns-in-Converted
returns-in-Converted c = search rules

pub returns-in-Unconverted : goal.returns-in-Unconverted
returns-in-Unconverted c = search rules
