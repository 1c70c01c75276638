use Rattle.std.proofs.Common.{refl}
use Rattle.sci_work.proofs.Dealing.{new_seats}
use Rattle.sci_work.proofs.lines.zeroed.Goals as goal

pub returns-in-Err-OutOfMemory-clause-err : goal.returns-in-Err-OutOfMemory-clause-err
returns-in-Err-OutOfMemory-clause-err g c = refl

pub returns-in-Ok-clause-seats : goal.returns-in-Ok-clause-seats
returns-in-Ok-clause-seats g c = new_seats c.in-Ok.made.0 c.in-Ok.made.1.items c.in-Ok.ensures.seats.1 c.in-Ok.ensures.new
