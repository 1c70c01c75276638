use Rattle.std.proofs.Common.{ap, sym}
use Rattle.sci_work.specs.Refusals.{refusal_number}
use Rattle.sci_work.proofs.refusals.WorkRefusal.number.Goals as goal

pub returns-in-Overrun : goal.returns-in-Overrun
returns-in-Overrun c = ap refusal_number (sym c.in-Overrun.is)
