use Rattle.std.proofs.Common.{refl}
use Rattle.sci_trace.proofs.desk.TraceDesk.wait_of.Goals as goal

pub returns-in-Waiting : goal.returns-in-Waiting
returns-in-Waiting c = rw c.in-Waiting.is (c.waits_for.result, c.waits_for.ensures, refl)
