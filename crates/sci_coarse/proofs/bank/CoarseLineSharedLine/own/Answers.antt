use Rattle.sci_coarse.proofs.bank.CoarseLineSharedLine.own.Goals as goal

pub own-requires : goal.own-requires
own-requires g c = record { of = c.requires }

pub returns : goal.returns
returns g c = (c.own.ensures.made, c.own.ensures.receives)
