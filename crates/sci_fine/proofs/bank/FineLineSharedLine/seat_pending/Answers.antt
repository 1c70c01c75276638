use Rattle.sci_fine.proofs.Asking.{sound_of}
use Rattle.sci_fine.proofs.bank.FineLineSharedLine.seat_pending.Goals as goal

pub returns-clause-sound : goal.returns-clause-sound
returns-clause-sound g c = let s = c.args.seat.now.standing in sound_of s.terms.nodes (g.K.Keeps.fits s.terms.keep s.terms.number) s.node c.pending.result c.pending.ensures.standing
