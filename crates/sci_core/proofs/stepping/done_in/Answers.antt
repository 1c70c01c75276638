use Rattle.std.proofs.Common.{rules}
use Rattle.sci_core.proofs.stepping.done_in.Goals as goal

pub returns-in-Missed-clause-done : goal.returns-in-Missed-clause-done
returns-in-Missed-clause-done c = search rules
