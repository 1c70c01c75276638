use Rattle.std.proofs.Common.{ℕ, ◌<◌, sym, subst}
use Rattle.sci_core.specs.declared.outcomes.Outcome.{Outcome}
use Rattle.sci_core.specs.Whole.{nodes_of, state_of}
use Rattle.sci_port.proofs.Lent.{step_gives}
use Rattle.sci_port.specs.Owes.{TakesRow}
use Rattle.sci_coarse.proofs.Calling.{answer_kept, fits_in, still_on}
use Rattle.sci_coarse.proofs.Listed.{clash}
use Rattle.sci_coarse.proofs.calls.step_whole.Goals as goal

pub step-requires-clause-node : goal.step-requires-clause-node
step-requires-clause-node g c = c.requires.node

pub step-requires-clause-fits : goal.step-requires-clause-fits
step-requires-clause-fits g c = fits_in g.K.Keeps.fits c.args.standing.now.terms c.args.whole.now c.args.event c.requires.on c.requires.fits

pub follow-requires-clause-on : goal.follow-requires-clause-on
follow-requires-clause-on g c = still_on c.args.standing.now.terms c.args.whole.now c.step.new.self c.in-Ok.ensures.same c.requires.on

pub follow-requires-clause-node : goal.follow-requires-clause-node
follow-requires-clause-node g c = subst (λ (n : ℕ). c.args.node < n) (sym c.in-Ok.ensures.same.nodes) c.requires.node

pub unreachable-requires : goal.unreachable-requires
unreachable-requires g c = clash _ c.requires.allowed c.in-Err.ensures.answers.0

pub returns-clause-terms : goal.returns-clause-terms
returns-clause-terms g c = c.follow.ensures.terms

pub returns-clause-pending : goal.returns-clause-pending
returns-clause-pending g c = c.follow.ensures.pending

pub returns-clause-calls : goal.returns-clause-calls
returns-clause-calls g c =
    let e = c.in-Ok.ensures in
    let d = step_gives g.K.Keeps.fits c.args.whole.now c.step.new.self c.args.node e.same c.args.whole.ghost_name c.args.event c.in-Ok.outcome c.requires.allowed e.answers e.lawful in
    record { same = e.same; gives = d.2; owes = d.3 }

pub follow-requires-clause-answered : goal.follow-requires-clause-answered
follow-requires-clause-answered g c =
    let e = c.in-Ok.ensures in let w = c.args.whole.now in let v = c.step.new.self in let me = c.args.node in
    let d = step_gives g.K.Keeps.fits w v me e.same c.args.whole.ghost_name c.args.event c.in-Ok.outcome c.requires.allowed e.answers e.lawful in
    λ line is. answer_kept (nodes_of w) me ((state_of w).steps me) c.args.event line ((state_of v).steps me) (subst (λ (o : Outcome). TakesRow (nodes_of w) me ((state_of w).steps me) c.args.event o ((state_of v).steps me)) is d.3.1)
