use Rattle.sci_fine.proofs.KeptAll.{begins_kept, stays_kept, stays_readied}
use Rattle.sci_fine.proofs.laws.law_of_kept_receipts.Goals as goal

pub returns-clause-begins : goal.returns-clause-begins
returns-clause-begins g c = begins_kept c.args.seat.now

pub returns-clause-stays : goal.returns-clause-stays
returns-clause-stays g c = stays_kept c.args.seat.now g.K.Keeps.fits

pub returns-clause-readied : goal.returns-clause-readied
returns-clause-readied g c = stays_readied c.args.seat.now
