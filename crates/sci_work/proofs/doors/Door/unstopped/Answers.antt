use Rattle.std.proofs.Common.{refl}
use Rattle.sci_work.proofs.doors.Door.unstopped.Goals as goal

pub returns-then-load : goal.returns-then-load
returns-then-load g c = refl
