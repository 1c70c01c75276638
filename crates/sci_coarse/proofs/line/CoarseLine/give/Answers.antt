use Rattle.std.proofs.Common.{subst, arith}
use Rattle.sci_port.specs.declared.calls.Call.{Call}
use Rattle.sci_coarse.specs.Regions.{given}
use Rattle.sci_coarse.proofs.Locks.{gives_as}
use Rattle.sci_coarse.proofs.line.CoarseLine.give.Goals as goal

pub store-requires : goal.store-requires
store-requires g c =
    let sized = c.args.self.now.sized in let h = c.requires.hand in
    (c.requires.of.0, omega (arith, sized.1), gives_as g.K.Keeps.fits c.args.self.now.terms c.args.self.now.table.shared.key _ _ c.args.token.now.me c.args.call.now _ h.0 h.1 sized.0 c.requires.tells c.requires.of.1 c.requires.held h.2 h.3 h.4)

pub returns-clause-given : goal.returns-clause-given
returns-clause-given g c = subst (λ (k : Call). given k c.args.token.now.me c.store.new.seat.me) c.requires.tells c.store.ensures.2
