use Rattle.std.proofs.Common.{◌≤◌, arith}
use Rattle.sci_fine.proofs.Moves.{loads}
use Rattle.sci_fine.proofs.line.FineLine.load.Goals as goal

pub load-requires : goal.load-requires
load-requires g c =
    let sized = c.args.self.now.sized in let t = c.args.self.now.terms in let small : t.nodes ≤ 65535 = omega (arith, sized.4) in
    (c.requires.of.0, omega (arith, c.lies_at-place.ensures), loads g.K.Keeps.fits t c.args.self.now.table.shared.key _ _ c.args.token.now.me sized.0 small c.requires.of.1 c.args.number _ c.requires.below c.lies_at-place.ensures)

pub returns-clause-loaded : goal.returns-clause-loaded
returns-clause-loaded g c = c.load.ensures.2 c.args.number c.lies_at-place.ensures
