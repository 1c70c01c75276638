use Rattle.std.proofs.Common.{rules}
use Rattle.sci_work.proofs.doors.Door.leave.Goals as goal

pub returns-clause-next : goal.returns-clause-next
returns-clause-next g c = search rules

pub returns-clause-last : goal.returns-clause-last
returns-clause-last g c = search rules
