use Rattle.sci_serve.proofs.Serving.{stops_failing, ok_then, err_then}
use Rattle.sci_serve.proofs.scripts.serve_input.Goals as goal

pub returns-clause-ok : goal.returns-clause-ok
returns-clause-ok g c =
    let script = c.in_ok-script.script in
    ok_then c.run.result _ _ c.run.ensures.ok
    (λ (text, is, appended). (text, (c.requires, script.size, script.capacity, script.openings.items, script.steps.items, c.in_ok-script.ensures, is), appended))

pub returns-clause-err : goal.returns-clause-err
returns-clause-err g c =
    let script = c.in_ok-script.script in
    err_then c.run.result _ _ c.run.ensures.err
    (λ e (written, fails, appended). (
      written,
      stops_failing c.args.limit c.args.form e c.args.input.now written script.size script.capacity script.openings.items script.steps.items c.requires c.in_ok-script.ensures fails,
      appended,
    ))
