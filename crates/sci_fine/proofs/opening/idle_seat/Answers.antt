use Rattle.sci_fine.proofs.Seating.{idle_standing}
use Rattle.sci_fine.proofs.opening.idle_seat.Goals as goal

pub idle-requires : goal.idle-requires
idle-requires g c = let t = c.args.terms in idle_standing t.nodes (g.K.Keeps.fits t.keep t.number) t.opening c.args.node c.requires.below c.requires.fits
