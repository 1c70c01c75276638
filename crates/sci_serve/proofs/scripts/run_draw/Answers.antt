use Rattle.std.proofs.Common.{[], inl, inr, refl}
use Rattle.std.proofs.KnownBytes.{Appends-nil}
use Rattle.std.proofs.lemmas.Result.{err_from_is_err_and}
use Rattle.sci_script.specs.Wholes.{shared_of}
use Rattle.sci_trace.specs.Pages.{page_of}
use Rattle.sci_serve.proofs.Serving.{ok_then, err_then}
use Rattle.sci_serve.proofs.scripts.run_draw.Goals as goal

pub returns-clause-ok : goal.returns-clause-ok
returns-clause-ok g c =
    let desk = c.in_ok-desk.desk in
    ok_then c.draw.result _ _ c.draw.ensures.ok
    (λ (traced, told, appended). (page_of c.args.input.now traced, (shared_of desk.desk, shared_of c.draw.new.desk.desk, traced, c.in_ok-desk.ensures.opened, told, refl), appended))

pub returns-clause-err : goal.returns-clause-err
returns-clause-err g c =
    let desk = c.in_ok-desk.desk in
    err_then c.draw.result _ _ c.draw.ensures.err
    (λ e (written, left, appended). (written, inr (shared_of desk.desk, shared_of c.draw.new.desk.desk, c.in_ok-desk.ensures.opened, left), appended))

pub returns-in_err-desk-clause-err : goal.returns-in_err-desk-clause-err
returns-in_err-desk-clause-err g c =
    let p = err_from_is_err_and c.from_residual.result c.from_residual.ensures.1 in
    rw (p.1, p.2) ([], inl (refl, refl), Appends-nil _)
