use Rattle.std.proofs.Common.{rules}
use Rattle.sci_core.proofs.table.purging.clearing_outline.Goals as goal

pub returns-in-Clear : goal.returns-in-Clear
returns-in-Clear c = search rules
