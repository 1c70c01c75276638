use Rattle.std.proofs.Common.{None, sym, subst}
use Rattle.sci_core.specs.declared.events.Event.{Event}
use Rattle.sci_core.specs.declared.outcomes.Outcome.{Outcome}
use Rattle.sci_port.specs.declared.calls.Call.TheVariants.{Stepped}
use Rattle.sci_fine.specs.Seats.{HasMade}
use Rattle.sci_fine.proofs.Asking.{row_allowed}
use Rattle.sci_fine.proofs.seats.Seat.make.Goals as goal

pub returns-in-Look : goal.returns-in-Look
returns-in-Look g c = record { made = subst (λ (e : Event). HasMade g.K.Keeps.fits c.args.self.now (Stepped e (Outcome.Done None)) c.look.new.self) (sym c.in-Look.is) c.look.ensures.made; kept = c.look.ensures.kept }

pub exchange-requires : goal.exchange-requires
exchange-requires g c = let s = c.args.self.now.standing in record { of = c.requires.of; allowed = row_allowed s.terms.nodes s.node s.pending c.args.event.now c.in_default.not-Look c.requires.allowed; fits = c.requires.fits }

pub returns-in_default : goal.returns-in_default
returns-in_default g c = record { made = c.exchange.ensures.made; kept = c.exchange.ensures.kept }
