use Rattle.std.proofs.Common.{◌≡◌, ◌<◌, ℕ, [], arith, refl, sym, subst, ◌∙◌}
use Rattle.std.proofs.lemmas.Result.{IfOk-from_err}
use Rattle.sci_ops.specs.declared.goals.Goal.{Goal}
use Rattle.sci_ops.specs.declared.goals.Write.{Write}
use Rattle.sci_ops.specs.Change.{StoresFitting}
use Rattle.sci_work.specs.Adding.{HasAdded}
use Rattle.sci_work.proofs.Adding.{added_more, added_none}
use Rattle.sci_work.proofs.Residual.{passed_on}
use Rattle.sci_work.proofs.Worked.{worked_not, worked_then}
use Rattle.sci_work.proofs.programs.counted.Goals as goal

pub loop-init : goal.loop-init
loop-init g c = record { worked = ([], worked_not c.requires.ready); added = λ yes. added_none (g.B.Bank.receipts c.args.bank.now 0).list }

pub add_one-requires-clause-ready : goal.add_one-requires-clause-ready
add_one-requires-clause-ready g c κs within = c.loop.invariant.worked.1.ready

pub add_one-requires-clause-line : goal.add_one-requires-clause-line
add_one-requires-clause-line g c κs within = subst (λ w. 0 < w.lines) (sym c.loop.invariant.worked.1.same_way) c.requires.line

pub add_one-requires-clause-fits : goal.add_one-requires-clause-fits
add_one-requires-clause-fits g c κs within = subst (λ k. StoresFitting (g.B.Keep.Keeps.fits k 0) (Goal.Write (Write.Add 0 1))) (sym c.loop.invariant.worked.1.same_fact) c.requires.fits

pub loop-preserved : goal.loop-preserved
loop-preserved g c =
    record { worked = (_, worked_then c.loop.invariant.worked.1 c.add_one.ensures.worked.1); added = λ yes. added_more (c.loop.invariant.added yes) (c.in_ok-add_one.ensures.added (c.loop.invariant.worked.1.same_keeps ∙ yes)) refl }

pub returns-in_err-add_one : goal.returns-in_err-add_one
returns-in_err-add_one g c =
    let r = c.from_residual in
    record {
      err = passed_on r.result _ _ r.ensures.1 c.in_err-add_one.ensures.err;
      worked = (_, worked_then c.loop.invariant.worked.1 c.add_one.ensures.worked.1);
      added = λ yes. IfOk-from_err r.result _ r.ensures.0;
    }

pub returns : goal.returns
returns g c =
    let all : c.loop.counter ≡ c.args.adds = omega (arith, c.loop.auto.counter-end, c.loop-test.false) in
    record {
      err = tt;
      worked = c.loop.invariant.worked;
      added = λ yes. subst (λ (n : ℕ). HasAdded n (g.B.Bank.receipts c.args.bank.now 0).list (g.B.Bank.receipts c.loop.bank 0).list) all (c.loop.invariant.added yes);
    }
