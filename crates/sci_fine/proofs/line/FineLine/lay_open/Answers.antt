use Rattle.sci_fine.proofs.Ending.{left_as}
use Rattle.sci_fine.proofs.line.FineLine.lay_open.Goals as goal

pub returns-clause-rest : goal.returns-clause-rest
returns-clause-rest g c = left_as g.K.Keeps.fits c.args.self.terms c.args.self.table.shared.key _ _ _ _ c.args.self.sized.0 c.requires.of.1 c.requires.view.0 c.requires.view.1 c.requires.view.2 c.requires.logs c.close_with.ensures.values.2
