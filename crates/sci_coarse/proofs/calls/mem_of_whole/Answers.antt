use Rattle.sci_coarse.proofs.Calling.{mem_called}
use Rattle.sci_coarse.proofs.calls.mem_of_whole.Goals as goal

pub returns : goal.returns
returns g c = λ node. mem_called g.K.Keeps.fits c.args.whole.now node _ c.mem.ensures.value c.mem.ensures.well_formed c.mem.ensures.links
