use Rattle.sci_fine.proofs.Asking.{sound_of}
use Rattle.sci_fine.proofs.bank.FineLineSharedLine.seat_stage.Goals as goal

pub returns-clause-value : goal.returns-clause-value
returns-clause-value g c = c.stage.ensures.value

pub returns-clause-sound : goal.returns-clause-sound
returns-clause-sound g c = let s = c.args.seat.now.standing in sound_of s.terms.nodes (g.K.Keeps.fits s.terms.keep s.terms.number) s.node s.pending c.stage.ensures.standing
