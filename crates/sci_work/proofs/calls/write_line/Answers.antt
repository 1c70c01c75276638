use Rattle.std.proofs.Common.{[], ◌∷◌, refl}
use Rattle.std.proofs.lemmas.Result.{IfOk-from_err}
use Rattle.sci_cache.specs.declared.requests.Request.{Request}
use Rattle.sci_work.specs.Made.{none, ready, write, refused}
use Rattle.sci_work.proofs.Making.{on_err, still_called}
use Rattle.sci_work.proofs.Residual.{passed_on}
use Rattle.sci_work.proofs.Worked.{still_not}
use Rattle.sci_work.proofs.Written.{wrote_line, wrote_refused}
use Rattle.sci_work.proofs.calls.write_line.Goals as goal

pub returns-in_err-enter : goal.returns-in_err-enter
returns-in_err-enter g c =
    let r = c.from_residual in
    record {
      err = passed_on r.result _ _ r.ensures.1 c.in_err-enter.ensures;
      made = IfOk-from_err r.result _ r.ensures.0;
      none = on_err r.result none;
      still = ([], still_not c.requires.ready, IfOk-from_err r.result _ r.ensures.0);
    }

pub returns-in-Ok : goal.returns-in-Ok
returns-in-Ok g c =
    record {
      err = tt;
      made = write c.args.line c.args.words _ (ready none c.in-Ok.ensures.readied) c.in-Ok.ensures.waits;
      none = tt;
      still = (
        (c.args.line, c.args.words) ∷ [],
        still_called c.args.node.now (Request.WriteLine c.args.line c.args.words) c.args.bank.now _ c.write_line-answer.new.bank c.write_line-answer.new.self c.in-Ok.ensures
            (λ yes. wrote_line (g.B.Keep.Keeps.fits (g.B.Bank.keep c.args.bank.now) c.args.line) c.args.line c.args.words (c.in-Ok.ensures.kept yes) c.in-Ok.ensures.content c.in-Ok.ensures.waits.1) c.requires.ready,
        refl,
      );
    }

pub returns-in-Err : goal.returns-in-Err
returns-in-Err g c =
    record {
      err = c.refused.ensures.comes;
      made = tt;
      none = refused c.args.line c.args.words _ (ready none c.in-Err.ensures.readied) c.in-Err.ensures.waits;
      still = (
        [],
        still_called c.args.node.now (Request.WriteLine c.args.line c.args.words) c.args.bank.now _ c.write_line-answer.new.bank c.write_line-answer.new.self c.in-Err.ensures (λ yes. wrote_refused (c.in-Err.ensures.kept yes)) c.requires.ready,
        tt,
      );
    }

pub write_line-answer-requires : goal.write_line-answer-requires
write_line-answer-requires g c = record { node = c.requires.ready.node; lines = c.requires.ready.lines; fits = λ _ _ _. c.requires.fits }
