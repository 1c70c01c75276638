use Rattle.sci_coarse.proofs.line.CoarseLine.whole_of.Goals as goal

pub open-requires : goal.open-requires
open-requires g c = c.requires.fits

pub returns : goal.returns
returns g c = (c.in-Ok.ensures.opened, c.nodes.ensures.lawful)
