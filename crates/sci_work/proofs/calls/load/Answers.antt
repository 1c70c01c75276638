use Rattle.std.proofs.Common.{Result, IfOk, subst}
use Rattle.std.proofs.lemmas.Result.{IfOk-from_err}
use Rattle.sci_ops.specs.declared.answers.Answer.{Answer}
use Rattle.sci_ops.specs.declared.goals.Goal.{Goal}
use Rattle.sci_cache.specs.declared.refusals.NodeRefusal.{NodeRefusal}
use Rattle.sci_cache.specs.Nodes.{IsAnswerTo}
use Rattle.sci_cache.specs.declared.requests.Request.{Request}
use Rattle.sci_work.specs.Made.{none, ready, load}
use Rattle.sci_work.proofs.Making.{still_called}
use Rattle.sci_work.proofs.Residual.{passed_on}
use Rattle.sci_work.proofs.Worked.{still_not}
use Rattle.sci_work.proofs.Written.{wrote_read}
use Rattle.sci_work.proofs.calls.load.Goals as goal

pub returns-in_err-enter : goal.returns-in_err-enter
returns-in_err-enter g c =
    let r = c.from_residual in
    record {
      fits = IfOk-from_err r.result _ r.ensures.0;
      err = passed_on r.result _ _ r.ensures.1 c.in_err-enter.ensures;
      made = none;
      still = still_not c.requires.ready;
    }

pub returns-in-Ok-Seen-clause-made : goal.returns-in-Ok-Seen-clause-made
returns-in-Ok-Seen-clause-made g c = load c.args.line c.load-answer.result (ready none c.load-answer.ensures.readied) c.load-answer.ensures.waits

pub returns-in-Ok-Seen-clause-still : goal.returns-in-Ok-Seen-clause-still
returns-in-Ok-Seen-clause-still g c = let e = c.load-answer.ensures in
    still_called c.args.node.now (Request.Load c.args.line) c.args.bank.now c.load-answer.result c.load-answer.new.bank c.load-answer.new.self e (λ yes. wrote_read c.args.line c.load-answer.result (e.kept yes)) c.requires.ready

pub returns-in-Err : goal.returns-in-Err
returns-in-Err g c =
    let e = c.load-answer.ensures in
    record {
      fits = tt;
      err = c.refused.ensures.comes;
      made = load c.args.line c.load-answer.result (ready none c.load-answer.ensures.readied) c.load-answer.ensures.waits;
      still = still_called c.args.node.now (Request.Load c.args.line) c.args.bank.now c.load-answer.result c.load-answer.new.bank c.load-answer.new.self e (λ yes. wrote_read c.args.line c.load-answer.result (e.kept yes)) c.requires.ready;
    }

pub returns-in-Ok-Seen-clause-err : goal.returns-in-Ok-Seen-clause-err
returns-in-Ok-Seen-clause-err g c = tt

pub load-answer-requires : goal.load-answer-requires
load-answer-requires g c = record { node = c.requires.ready.node; lines = c.requires.ready.lines }

pub returns-in-Ok-Seen-clause-fits : goal.returns-in-Ok-Seen-clause-fits
returns-in-Ok-Seen-clause-fits g c =
    let shown = subst (λ (r : Result Answer NodeRefusal). IfOk r (λ a. IsAnswerTo (g.B.Keep.Keeps.fits (g.B.Bank.keep c.args.bank.now) c.args.line) Goal.Load a)) c.in-Ok-Seen.is c.load-answer.ensures.content in
    subst (λ (a : Answer). IsAnswerTo (g.B.Keep.Keeps.fits (g.B.Bank.keep c.args.bank.now) c.args.line) Goal.Load a) (rw c.in-Ok-Seen.is at c.in-Ok-Seen.field-0-is) shown
