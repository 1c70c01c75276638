use Rattle.std.proofs.Common.{refl}
use Rattle.sci_coarse.proofs.seats.Seat.node.Goals as goal

pub returns : goal.returns
returns g c = refl
