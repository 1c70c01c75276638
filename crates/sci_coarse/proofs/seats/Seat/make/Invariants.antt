use Rattle.sci_coarse.proofs.seats.Seat.make.Given as goal

abbrev pub ghosts-give : goal.ghosts-give
ghosts-give g a = record { call = a.call.now }
