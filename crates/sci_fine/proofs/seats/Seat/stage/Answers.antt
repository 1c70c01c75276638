use Rattle.std.proofs.Common.{rules}
use Rattle.sci_fine.proofs.seats.Seat.stage.Goals as goal

pub returns : goal.returns
returns g c = search rules
