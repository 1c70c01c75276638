use Rattle.std.proofs.Common.{◌≡◌, ℕ, ◌+◌, List, ap, arith, subst}
use Rattle.std.proofs.lemmas.Result.{IfOk-from_err}
use Rattle.sci_work.specs.Made.{ComesInWork}
use Rattle.sci_work.specs.Stencil.{phase_writes}
use Rattle.sci_work.specs.Workers.{HasWorked}
use Rattle.sci_work.proofs.Exits.{passed_on}
use Rattle.sci_work.proofs.Making.{on_ok}
use Rattle.sci_work.proofs.Tiles.{first_phase, next_phase}
use Rattle.sci_work.proofs.Worked.{worked_then}
use Rattle.sci_work.proofs.stencils.worker.worked.Goals as goal

pub loop-phase-init : goal.loop-phase-init
loop-phase-init g c =
    let e = c.in_ok-open_all.ensures in let work = c.args.work in
    subst (λ (ws : List (ℕ × List ℕ)). HasWorked c.args.node.now.keeps ws g.B.Bank.way g.B.Bank.keep g.B.Bank.at_step g.B.Bank.gives g.B.Bank.readies g.B.Bank.receipts c.args.bank.now c.open_all.new.node c.open_all.new.bank) (first_phase work.cells.now work.nodes work.tiles c.args.number e.worked.0 e.worked.2) e.worked.1

pub advance_all-requires-clause-work : goal.advance_all-requires-clause-work
advance_all-requires-clause-work g c κs within = rw (c.loop-phase.invariant.same_fact, c.loop-phase.invariant.same_way) c.requires.work

pub loop-phase-preserved : goal.loop-phase-preserved
loop-phase-preserved g c =
    let was = c.loop-phase.invariant in let e = c.in_ok-advance_all.ensures in let work = c.args.work in
    subst (λ (ws : List (ℕ × List ℕ)). HasWorked c.args.node.now.keeps ws g.B.Bank.way g.B.Bank.keep g.B.Bank.at_step g.B.Bank.gives g.B.Bank.readies g.B.Bank.receipts c.args.bank.now c.advance_all.new.node c.advance_all.new.bank)
    (next_phase work.cells.now work.nodes work.tiles c.args.number c.loop-phase.phase e.worked.0 e.worked.2) (worked_then was e.worked.1)

pub collect-requires-clause-work : goal.collect-requires-clause-work
collect-requires-clause-work g c κs within = rw (c.loop-phase.invariant.same_fact, c.loop-phase.invariant.same_way) c.requires.work

pub returns-in_err-open_all : goal.returns-in_err-open_all
returns-in_err-open_all g c =
    let e = c.open_all.ensures in let r = c.from_residual in
    record { share = IfOk-from_err r.result _ r.ensures.0; err = passed_on r.result _ ComesInWork r.ensures.1 c.in_err-open_all.ensures.err; worked = (_, e.worked.1, IfOk-from_err r.result _ r.ensures.0) }

pub returns-in_err-advance_all : goal.returns-in_err-advance_all
returns-in_err-advance_all g c =
    let was = c.loop-phase.invariant in let e = c.advance_all.ensures in let r = c.from_residual-in_err-advance_all in
    record {
      share = IfOk-from_err r.result _ r.ensures.0;
      err = passed_on r.result _ ComesInWork r.ensures.1 c.in_err-advance_all.ensures.err;
      worked = (_, worked_then was e.worked.1, IfOk-from_err r.result _ r.ensures.0);
    }

pub returns : goal.returns
returns g c =
    let was = c.loop-phase.invariant in let e = c.collect.ensures in
    let work = c.args.work in let all : c.loop-phase.phase ≡ work.phases = omega (arith, c.loop-phase.auto.phase-end, c.loop-phase-test.false) in
    record { share = e.share; err = e.err; worked = (_, worked_then was e.worked, on_ok c.collect.result (ap (λ (p : ℕ). phase_writes work.cells.now work.nodes work.tiles c.args.number (p + 1)) all)) }
