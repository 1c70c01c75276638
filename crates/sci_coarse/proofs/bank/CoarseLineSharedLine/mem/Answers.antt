use Rattle.sci_coarse.proofs.bank.CoarseLineSharedLine.mem.Goals as goal

pub mem-requires : goal.mem-requires
mem-requires g c = record { of = c.requires }

pub returns : goal.returns
returns g c = (c.mem.ensures.made, c.mem.ensures.receives)
