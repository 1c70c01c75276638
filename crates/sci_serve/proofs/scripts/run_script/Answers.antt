use Rattle.std.proofs.Common.{[], inl, inr, refl}
use Rattle.std.proofs.KnownBytes.{Appends-nil}
use Rattle.std.proofs.lemmas.Result.{err_from_is_err_and}
use Rattle.sci_script.specs.Request.{no_words}
use Rattle.sci_script.specs.Shared.{shared_is_open, shared_does}
use Rattle.sci_script.specs.Wholes.{shared_of}
use Rattle.sci_script.proofs.Through.{prints_all, leaves}
use Rattle.sci_serve.proofs.Serving.{ok_then, err_then}
use Rattle.sci_serve.proofs.scripts.run_script.Goals as goal

pub returns-clause-ok : goal.returns-clause-ok
returns-clause-ok g c =
    let desk = c.in_ok-desk.desk in
    let last = c.run.new.desk in
    ok_then c.run.result _ _ c.run.ensures.ok
    (λ (text, printed, appended). (
      text,
      (shared_of desk, shared_of last, c.in_ok-desk.ensures.opened, prints_all shared_of shared_is_open (λ d event e. shared_does (shared_of d) event (shared_of e)) shared_does (λ d event e h. h) no_words desk c.args.script.now.steps.items text last printed),
      appended,
    ))

pub returns-clause-err : goal.returns-clause-err
returns-clause-err g c =
    let desk = c.in_ok-desk.desk in
    let last = c.run.new.desk in
    err_then c.run.result _ _ c.run.ensures.err
    (λ e (written, left, appended). (
      written,
      inr (shared_of desk, shared_of last, c.in_ok-desk.ensures.opened, leaves shared_of shared_is_open (λ d event e. shared_does (shared_of d) event (shared_of e)) shared_does (λ d event e h. h) c.args.script.now.size.nodes desk c.args.script.now.steps.items e written last left),
      appended,
    ))

pub returns-in_err-desk-clause-err : goal.returns-in_err-desk-clause-err
returns-in_err-desk-clause-err g c =
    let p = err_from_is_err_and c.from_residual.result c.from_residual.ensures.1 in
    rw (p.1, p.2) ([], inl (refl, refl), Appends-nil _)
