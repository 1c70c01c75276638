use Rattle.std.proofs.Common.{refl}
use Rattle.sci_port.proofs.seat_bank.SeatOfAnother.number.Goals as goal

pub returns : goal.returns
returns g c = refl
