use Rattle.std.proofs.Common.{◌≤◌, arith}
use Rattle.sci_fine.proofs.Moves.{looks}
use Rattle.sci_fine.proofs.line.FineLine.look.Goals as goal

pub load-requires : goal.load-requires
load-requires g c =
    let sized = c.args.self.now.sized in let t = c.args.self.now.terms in let small : t.nodes ≤ 65535 = omega (arith, sized.4) in
    (c.requires.of.0, omega (arith, c.lies_at-place.ensures, c.requires.own.0), looks g.K.Keeps.fits t c.args.self.now.table.shared.key _ _ c.args.token.now.me sized.0 small c.requires.of.1 _ c.requires.note c.args.number _ c.requires.own.0 c.lies_at-place.ensures)

pub returns-clause-looked : goal.returns-clause-looked
returns-clause-looked g c = c.load.ensures.2
