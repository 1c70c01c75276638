use Rattle.std.proofs.Common.{arith}
use Rattle.sci_coarse.proofs.Locks.{takes_as, took_by}
use Rattle.sci_coarse.proofs.line.CoarseLine.take.Goals as goal

pub compare_exchange-requires : goal.compare_exchange-requires
compare_exchange-requires g c =
    let sized = c.args.self.now.sized in
    (c.requires.of.0, omega (arith, sized.1), takes_as g.K.Keeps.fits c.args.self.now.terms c.args.self.now.table.shared.key _ _ c.args.token.now.me sized.0 c.requires.of.1 c.requires.free.0 c.requires.free.1)

pub returns-clause-same : goal.returns-clause-same
returns-clause-same g c = (c.compare_exchange.ensures.0, c.compare_exchange.ensures.1)

pub returns-clause-taken : goal.returns-clause-taken
returns-clause-taken g c = took_by c.compare_exchange.result c.compare_exchange.ensures.2
