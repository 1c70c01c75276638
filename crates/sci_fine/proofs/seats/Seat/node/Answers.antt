use Rattle.sci_fine.proofs.seats.Seat.node.Goals as goal

pub returns : goal.returns
returns g c = c.node.ensures
