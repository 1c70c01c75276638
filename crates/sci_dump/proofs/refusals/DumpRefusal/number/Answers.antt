use Rattle.std.proofs.Common.{ap, sym}
use Rattle.sci_dump.specs.Refusals.{dump_refusal_number}
use Rattle.sci_dump.proofs.refusals.DumpRefusal.number.Goals as goal

pub returns-in-DumpFault : goal.returns-in-DumpFault
returns-in-DumpFault c = ap dump_refusal_number (sym c.in-DumpFault.is)
