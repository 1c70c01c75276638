use Rattle.std.proofs.Common.{List, ℕ, [], ◌<◌, length, take, string_bytes, ◌∙◌, refl, subst}
use Rattle.std.proofs.KnownBytes.{Appends-nil}
use Rattle.std.proofs.lemmas.Option.{IfSome_then}
use Rattle.std.proofs.lemmas.Result.{err_from_is_err_and}
use Rattle.std.specs.Io.KnownBytes.{Appends}
use Rattle.sci_serve.specs.Races.{Races, StopsRacing}
use Rattle.sci_serve.proofs.RaceStops.{stops_input, told_at_end}
use Rattle.sci_serve.proofs.racing.serve_outcomes.Goals as goal

pub returns-in_err-input-clause-err : goal.returns-in_err-input-clause-err
returns-in_err-input-clause-err g c =
    let p = err_from_is_err_and c.from_residual.result c.from_residual.ensures.1 in
    rw (p.1, p.2)
    (IfSome_then (g.R.Read.remaining c.args.reader.now) c.in_err-input.ensures.err (λ input h. ([], stops_input (Races c.args.limit c.args.most input) c.args.limit c.args.most c.in_err-input.field-0.0 input h, Appends-nil _)))

pub returns-in_err-text-clause-err : goal.returns-in_err-text-clause-err
returns-in_err-text-clause-err g c =
    let p = err_from_is_err_and c.from_residual-in_err-text.result c.from_residual-in_err-text.ensures.1 in
    rw (p.1, p.2)
    (IfSome_then (g.R.Read.remaining c.args.reader.now) c.in_ok-input.ensures.read
    (λ input e. ([], subst (λ (i : List ℕ). StopsRacing c.args.limit c.args.most c.in_err-text.field-0.0 i []) (c.deref.ensures.value ∙ e) c.in_err-text.ensures.err, Appends-nil _)))

pub returns-in_err-text-clause-in_time : goal.returns-in_err-text-clause-in_time
returns-in_err-text-clause-in_time g c =
    let p = err_from_is_err_and c.from_residual-in_err-text.result c.from_residual-in_err-text.ensures.1 in
    rw (p.1, p.2) (told_at_end c.in_err-text.field-0.0 _ c.in_ok-input.ensures.end)

pub returns-in-Ok-clause-ok : goal.returns-in-Ok-clause-ok
returns-in-Ok-clause-ok g c =
    let contents = g.W.Write.contents in
    let text = string_bytes c.in_ok-text.text in
    let appended = subst (λ (t : List ℕ). Appends (contents c.args.writer.now) (contents c.put.new.out) t) c.as_bytes.ensures.value c.in-Ok.ensures.ok in
    IfSome_then (g.R.Read.remaining c.args.reader.now) c.in_ok-input.ensures.read
    (λ input e. (text, subst (λ (i : List ℕ). Races c.args.limit c.args.most i text) (c.deref.ensures.value ∙ e) c.in_ok-text.ensures.ok, appended))

pub returns-clause-err : goal.returns-clause-err
returns-clause-err g c =
    let contents = g.W.Write.contents in
    let text = string_bytes c.in_ok-text.text in
    let Front = λ (t : List ℕ). (n : ℕ) × (n < length t) × Appends (contents c.args.writer.now) (contents c.put.new.out) (take n t) in
    let (n, less, appended) = subst Front c.as_bytes.ensures.value c.in-Err.ensures.err in
    IfSome_then (g.R.Read.remaining c.args.reader.now) c.in_ok-input.ensures.read
    (λ input e. (take n text, (text, n, subst (λ (i : List ℕ). Races c.args.limit c.args.most i text) (c.deref.ensures.value ∙ e) c.in_ok-text.ensures.ok, less, refl), appended))
