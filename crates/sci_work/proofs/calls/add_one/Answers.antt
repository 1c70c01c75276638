use Rattle.std.proofs.Common.{[]}
use Rattle.std.proofs.lemmas.Result.{IfOk-from_err}
use Rattle.sci_cache.specs.declared.requests.Request.{Request}
use Rattle.sci_work.proofs.Adding.{added_one}
use Rattle.sci_work.proofs.Making.{still_called}
use Rattle.sci_work.proofs.Residual.{passed_on}
use Rattle.sci_work.proofs.Worked.{may_call, worked_not, worked_still}
use Rattle.sci_work.proofs.Written.{one_added, wrote_added, wrote_refused}
use Rattle.sci_work.proofs.calls.add_one.Goals as goal

pub returns-in_err-enter : goal.returns-in_err-enter
returns-in_err-enter g c =
    let r = c.from_residual in
    record { err = passed_on r.result _ _ r.ensures.1 c.in_err-enter.ensures; worked = ([], worked_not c.requires.ready); added = λ yes. IfOk-from_err r.result _ r.ensures.0 }

pub returns-in-Ok : goal.returns-in-Ok
returns-in-Ok g c =
    let ended = c.in-Ok.ensures in let ready = c.requires.ready in
    record {
      err = tt;
      worked = (
        one_added c.args.line _,
        worked_still ready (still_called c.args.node.now (Request.Add c.args.line 0 1) c.args.bank.now _ c.add-answer.new.bank c.add-answer.new.self ended
            (λ yes. wrote_added (g.B.Keep.Keeps.fits (g.B.Bank.keep c.args.bank.now) c.args.line) c.args.line (ended.kept yes) ended.content ended.waits.1) (may_call ready)),
      );
      added = λ yes. added_one (g.B.Keep.Keeps.fits (g.B.Bank.keep c.args.bank.now) c.args.line) c.args.line (ended.kept yes) ended.content ended.waits.1;
    }

pub returns-in-Err : goal.returns-in-Err
returns-in-Err g c =
    let ended = c.in-Err.ensures in let ready = c.requires.ready in
    record {
      err = c.refused.ensures.comes;
      worked = ([], worked_still ready (still_called c.args.node.now (Request.Add c.args.line 0 1) c.args.bank.now _ c.add-answer.new.bank c.add-answer.new.self ended (λ yes. wrote_refused (ended.kept yes)) (may_call ready)));
      added = λ yes. tt;
    }

pub add-answer-requires : goal.add-answer-requires
add-answer-requires g c = record { node = c.requires.ready.node; lines = c.requires.ready.lines; fits = c.requires.fits }
