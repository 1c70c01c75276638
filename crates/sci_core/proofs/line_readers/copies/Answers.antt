use Rattle.std.proofs.Common.{rules}
use Rattle.sci_core.proofs.line_readers.copies.Goals as goal

pub returns-in-Copying : goal.returns-in-Copying
returns-in-Copying c = search rules
