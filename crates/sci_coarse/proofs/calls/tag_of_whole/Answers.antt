use Rattle.sci_coarse.proofs.Calling.{tag_called}
use Rattle.sci_coarse.proofs.calls.tag_of_whole.Goals as goal

pub returns : goal.returns
returns g c = λ node. tag_called g.K.Keeps.fits c.args.whole.now node c.args.other _ c.tag.ensures.value c.tag.ensures.well_formed c.tag.ensures.links
