use Rattle.sci_port.proofs.Before.{own_keeps}
use Rattle.sci_fine.proofs.seats.Seat.own.Goals as goal

pub returns : goal.returns
returns g c = record { made = c.look.ensures.made; receives = own_keeps _ _ _ _ c.look.ensures.kept }
