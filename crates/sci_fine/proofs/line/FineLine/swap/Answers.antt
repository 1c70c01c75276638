use Rattle.std.proofs.Common.{◌≤◌, refl, subst, arith}
use Rattle.sci_core.specs.declared.events.Event.{Event}
use Rattle.sci_fine.specs.Steps.{exchanged}
use Rattle.sci_fine.proofs.Moves.{exchanges}
use Rattle.sci_fine.proofs.line.FineLine.swap.Goals as goal

pub compare_exchange-requires : goal.compare_exchange-requires
compare_exchange-requires g c =
    let sized = c.args.self.now.sized in let t = c.args.self.now.terms in let codes = c.requires.codes in let small : t.nodes ≤ 65535 = omega (arith, sized.4) in (
      c.requires.of.0,
      omega (arith, c.lies_at-place.ensures),
      exchanges g.K.Keeps.fits t c.args.self.now.table.shared.key _ _ c.args.token.now.me sized.0 small c.requires.of.1 c.args.event.now _ _ _ c.args.number _ _ _ c.requires.ask refl refl c.requires.turn c.requires.fits codes.3 c.requires.carries codes.0 c.lies_at-place.ensures codes.1 codes.2,
    )

pub returns-clause-exchanged : goal.returns-clause-exchanged
returns-clause-exchanged g c = subst (λ (e : Event). exchanged g.K.Keeps.fits e c.args.old c.args.token.now.me c.compare_exchange.result c.compare_exchange.new.seat.me) c.requires.ask c.compare_exchange.ensures.2
