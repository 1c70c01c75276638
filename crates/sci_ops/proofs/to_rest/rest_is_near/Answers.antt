use Rattle.sci_ops.proofs.Resting.Ranking.{ranking_bound}
use Rattle.sci_ops.proofs.to_rest.rest_is_near.Goals as goal

pub returns : goal.returns
returns g c = λ n keep number s v h. ranking_bound n (g.K.Keeps.fits keep number) s v h
