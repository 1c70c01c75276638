use Rattle.std.proofs.Common.{List, ℕ, [], ◌<◌, length, take, string_bytes, ◌∙◌, refl, subst}
use Rattle.std.proofs.KnownBytes.{Appends-nil}
use Rattle.std.proofs.lemmas.Option.{IfSome_then}
use Rattle.std.proofs.lemmas.Result.{err_from_is_err_and}
use Rattle.std.specs.Io.KnownBytes.{Appends}
use Rattle.sci_histories.specs.declared.rules.Verdict.{Verdict}
use Rattle.sci_histories.specs.declared.rules.Verdict.TheVariants.{Legal}
use Rattle.sci_serve.specs.Legality.{Judges, StopsJudging}
use Rattle.sci_serve.proofs.Judging.{if_some, stops_judging_input}
use Rattle.sci_serve.proofs.legality.serve_legal.Goals as goal

pub returns-in_err-input-clause-err : goal.returns-in_err-input-clause-err
returns-in_err-input-clause-err g c =
    let p = err_from_is_err_and c.from_residual.result c.from_residual.ensures.1 in
    rw (p.1, p.2)
    (if_some (g.R.Read.remaining c.args.reader.now) (λ input. ([], stops_judging_input c.in_err-input.field-0.0 input c.in_err-input.ensures.err, Appends-nil _)))

pub returns-in_err-verdict-clause-err : goal.returns-in_err-verdict-clause-err
returns-in_err-verdict-clause-err g c =
    let p = err_from_is_err_and c.from_residual-in_err-verdict.result c.from_residual-in_err-verdict.ensures.1 in
    rw (p.1, p.2)
    (IfSome_then (g.R.Read.remaining c.args.reader.now) c.in_ok-input.ensures.read
    (λ input e. ([], subst (λ (i : List ℕ). StopsJudging c.in_err-verdict.field-0.0 i []) (c.deref.ensures.value ∙ e) c.in_err-verdict.ensures.err, Appends-nil _)))

pub returns-in-Err-clause-err : goal.returns-in-Err-clause-err
returns-in-Err-clause-err g c =
    let contents = g.W.Write.contents in
    let verdict = c.in_ok-verdict.verdict in
    let text = string_bytes c.in_ok-verdict.text in
    let Front = λ (t : List ℕ). (n : ℕ) × (n < length t) × Appends (contents c.args.writer.now) (contents c.put.new.out) (take n t) in
    let (n, less, appended) = subst Front c.as_bytes.ensures.value c.in-Err.ensures.err in
    IfSome_then (g.R.Read.remaining c.args.reader.now) c.in_ok-input.ensures.read
    (λ input e. (take n text, (verdict, text, n, subst (λ (i : List ℕ). Judges i verdict text) (c.deref.ensures.value ∙ e) c.in_ok-verdict.ensures.ok, less, refl), appended))

pub returns-in-Legal-clause-ok : goal.returns-in-Legal-clause-ok
returns-in-Legal-clause-ok g c =
    let contents = g.W.Write.contents in
    let text = string_bytes c.in_ok-verdict.text in
    let appended = subst (λ (t : List ℕ). Appends (contents c.args.writer.now) (contents c.put.new.out) t) c.as_bytes.ensures.value c.in-Ok.ensures.ok in
    let checks = subst (λ (v : Verdict). Judges c.deref.result.now v text) c.in-Legal.is c.in_ok-verdict.ensures.ok in
    IfSome_then (g.R.Read.remaining c.args.reader.now) c.in_ok-input.ensures.read
    (λ input e. (text, subst (λ (i : List ℕ). Judges i Legal text) (c.deref.ensures.value ∙ e) checks, appended))

pub returns-clause-ok : goal.returns-clause-ok
returns-clause-ok g c = tt
