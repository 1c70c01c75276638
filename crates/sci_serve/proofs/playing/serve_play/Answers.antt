use Rattle.std.proofs.Common.{List, ℕ, [], ◌<◌, length, take, ◌∙◌, refl, subst}
use Rattle.std.proofs.KnownBytes.{Appends-nil}
use Rattle.std.proofs.lemmas.Option.{IfSome_then}
use Rattle.std.proofs.lemmas.Result.{err_from_is_err_and}
use Rattle.std.specs.Io.KnownBytes.{Appends}
use Rattle.sci_serve.specs.Plays.{Plays, StopsPlaying}
use Rattle.sci_serve.proofs.RaceStops.{stops_input, told_at_end}
use Rattle.sci_serve.proofs.playing.serve_play.Goals as goal

pub returns-in_err-input-clause-err : goal.returns-in_err-input-clause-err
returns-in_err-input-clause-err g c =
    let p = err_from_is_err_and c.from_residual.result c.from_residual.ensures.1 in
    rw (p.1, p.2)
    (IfSome_then (g.R.Read.remaining c.args.reader.now) c.in_err-input.ensures.err (λ input h. ([], stops_input (Plays c.args.limit c.args.most input) c.args.limit c.args.most c.in_err-input.field-0.0 input h, Appends-nil _)))

pub returns-in_err-page-clause-err : goal.returns-in_err-page-clause-err
returns-in_err-page-clause-err g c =
    let p = err_from_is_err_and c.from_residual-in_err-page.result c.from_residual-in_err-page.ensures.1 in
    rw (p.1, p.2)
    (IfSome_then (g.R.Read.remaining c.args.reader.now) c.in_ok-input.ensures.read
    (λ input e. ([], subst (λ (i : List ℕ). StopsPlaying c.args.limit c.args.most c.in_err-page.field-0.0 i []) (c.deref.ensures.value ∙ e) c.in_err-page.ensures.err, Appends-nil _)))

pub returns-in_err-page-clause-in_time : goal.returns-in_err-page-clause-in_time
returns-in_err-page-clause-in_time g c =
    let p = err_from_is_err_and c.from_residual-in_err-page.result c.from_residual-in_err-page.ensures.1 in
    rw (p.1, p.2) (told_at_end c.in_err-page.field-0.0 _ c.in_ok-input.ensures.end)

pub returns-in-Ok-clause-ok : goal.returns-in-Ok-clause-ok
returns-in-Ok-clause-ok g c =
    let contents = g.W.Write.contents in
    let page = c.in_ok-page.page.items in
    let appended = subst (λ (t : List ℕ). Appends (contents c.args.writer.now) (contents c.put.new.out) t) c.deref-2.ensures.value c.in-Ok.ensures.ok in
    IfSome_then (g.R.Read.remaining c.args.reader.now) c.in_ok-input.ensures.read
    (λ input e. (page, subst (λ (i : List ℕ). Plays c.args.limit c.args.most i page) (c.deref.ensures.value ∙ e) c.in_ok-page.ensures.ok, appended))

pub returns-clause-err : goal.returns-clause-err
returns-clause-err g c =
    let contents = g.W.Write.contents in
    let page = c.in_ok-page.page.items in
    let Front = λ (t : List ℕ). (n : ℕ) × (n < length t) × Appends (contents c.args.writer.now) (contents c.put.new.out) (take n t) in
    let (n, less, appended) = subst Front c.deref-2.ensures.value c.in-Err.ensures.err in
    IfSome_then (g.R.Read.remaining c.args.reader.now) c.in_ok-input.ensures.read
    (λ input e. (take n page, (page, n, subst (λ (i : List ℕ). Plays c.args.limit c.args.most i page) (c.deref.ensures.value ∙ e) c.in_ok-page.ensures.ok, less, refl), appended))
