use Rattle.sci_coarse.proofs.bank.CoarseLineSharedLine.tag.Goals as goal

pub tag-requires : goal.tag-requires
tag-requires g c = record { of = c.requires.of; other = c.requires.node }

pub returns : goal.returns
returns g c = (c.tag.ensures.made, c.tag.ensures.receives)
