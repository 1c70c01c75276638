use Rattle.std.proofs.Common.{refl}
use Rattle.sci_port.proofs.seat_bank.SeatBank.into_seats.Goals as goal

pub returns : goal.returns
returns g c = refl
