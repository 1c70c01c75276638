use Rattle.std.proofs.Common.{rules}
use Rattle.sci_script.proofs.Fitting.{line_in}
use Rattle.sci_script.proofs.places.Place.read_line.Goals as goal

pub returns-in-Ok-clause-fits : goal.returns-in-Ok-clause-fits
returns-in-Ok-clause-fits c = line_in c.args.self.now c.requires c.args.line.now c.in-Ok.read (search rules)
