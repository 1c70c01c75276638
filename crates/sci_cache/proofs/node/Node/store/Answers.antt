use Rattle.sci_cache.proofs.node.Node.store.Goals as goal

pub call-requires : goal.call-requires
call-requires g c = record { node = c.requires.node; lines = c.requires.lines; fits = c.requires.fits }

pub returns : goal.returns
returns g c = c.call.ensures
