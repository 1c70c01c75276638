use Rattle.std.proofs.Common.{ℕ, List, [], ◌∙◌, subst}
use Rattle.std.proofs.KnownBytes.{Appends-nil}
use Rattle.std.proofs.lemmas.Option.{IfSome_then}
use Rattle.std.proofs.lemmas.Result.{err_from_is_err_and}
use Rattle.sci_serve.specs.Fault.{fault_of}
use Rattle.sci_serve.specs.Serve.{Serves, Stops}
use Rattle.sci_serve.proofs.Serving.{stops_input}
use Rattle.sci_serve.proofs.scripts.serve.Goals as goal

pub returns-in_err-input-clause-err : goal.returns-in_err-input-clause-err
returns-in_err-input-clause-err g c =
    let p = err_from_is_err_and c.from_residual.result c.from_residual.ensures.1 in
    rw (p.1, p.2)
    (IfSome_then (g.R.Read.remaining c.args.reader.now) c.in_err-input.ensures.err (λ input h. ([], stops_input c.args.limit c.args.form c.in_err-input.field-0.0 input h, Appends-nil _)))

pub returns-in_err-serve_input-clause-err : goal.returns-in_err-serve_input-clause-err
returns-in_err-serve_input-clause-err g c =
    let p = err_from_is_err_and c.from_residual-in_err-serve_input.result c.from_residual-in_err-serve_input.ensures.1 in
    let e = c.in_err-serve_input.field-0.0 in
    let (written, stops, appended) = c.in_err-serve_input.ensures.err in
    rw (p.1, p.2)
    (IfSome_then (g.R.Read.remaining c.args.reader.now) c.in_ok-input.ensures.read
    (λ input is. (written, subst (λ (i : List ℕ). Stops c.args.limit c.args.form (fault_of e) i written) (c.deref.ensures.value ∙ is) stops, appended)))

pub returns-clause-ok : goal.returns-clause-ok
returns-clause-ok g c =
    let (text, served, appended) = c.in_ok-serve_input.ensures.ok in
    IfSome_then (g.R.Read.remaining c.args.reader.now) c.in_ok-input.ensures.read
    (λ input e. (text, subst (λ (i : List ℕ). Serves c.args.limit c.args.form i text) (c.deref.ensures.value ∙ e) served, appended))
