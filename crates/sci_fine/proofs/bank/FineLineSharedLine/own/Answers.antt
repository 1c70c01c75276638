use Rattle.sci_fine.proofs.bank.FineLineSharedLine.own.Goals as goal

pub own-requires : goal.own-requires
own-requires g c = record { of = c.requires }

pub returns : goal.returns
returns g c = (c.own.ensures.made, c.own.ensures.receives)
