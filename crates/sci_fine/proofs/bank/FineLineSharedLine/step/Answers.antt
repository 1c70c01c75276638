use Rattle.sci_fine.proofs.bank.FineLineSharedLine.step.Goals as goal

pub step-requires : goal.step-requires
step-requires g c = record { of = c.requires.of; allowed = c.requires.allowed; fits = c.requires.fits }

pub returns : goal.returns
returns g c = (c.step.ensures.made, c.step.ensures.receives)
