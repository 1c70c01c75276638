use Rattle.sci_fine.proofs.seats.Seat.exchange.Given as goal

abbrev pub ghosts-swap : goal.ghosts-swap
ghosts-swap g a = record { event = a.event.now }
