use Rattle.sci_core.proofs.Costs.{trail_pays, opened_measure}
use Rattle.sci_core.proofs.laws.run_is_paid.Goals as goal

pub returns-clause-paid : goal.returns-clause-paid
returns-clause-paid g c n keep number s t v w es done h below r = trail_pays n (g.K.Keeps.fits keep number) s t v w es done h below r

pub returns-clause-opened : goal.returns-clause-opened
returns-clause-opened g c n line = opened_measure n line
