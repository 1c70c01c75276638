use Rattle.std.proofs.Common.{[], ℕ, List, Option, IfSome, refl, subst}
use Rattle.std.specs.Io.KnownBytes.{IsAtEnd}
use Rattle.std.proofs.KnownBytes.{Appends-nil}
use Rattle.std.proofs.lemmas.Option.{IfSome_then}
use Rattle.std.proofs.lemmas.Result.{err_from_is_err_and}
use Rattle.sci_dump.specs.declared.checking.Verdict.TheVariants.{Lawful}
use Rattle.sci_dump.proofs.Streaming.{before_fault_front}
use Rattle.sci_serve.proofs.Telling.{told_none, stream_stops, stream_row, no_row, concluded, not_concluded}
use Rattle.sci_serve.proofs.large.serve_check_large_told.Goals as goal

pub returns-in-Err-clause-err : goal.returns-in-Err-clause-err
returns-in-Err-clause-err g c =
    rw c.told_of.ensures.fault
    (IfSome_then (g.R.Read.remaining c.args.reader.now) c.in-Err.ensures.err
    (λ input h. stream_stops c.in-Err.fault input [] [] Lawful (g.W.Write.contents c.args.writer.now) (g.W.Write.contents c.args.writer.now) refl h told_none (Appends-nil _)))

pub returns-in-Err-clause-row : goal.returns-in-Err-clause-row
returns-in-Err-clause-row g c =
    rw (c.told_of.ensures.fault, c.told_of.ensures.row)
    (IfSome_then (g.R.Read.remaining c.args.reader.now) c.in-Err.ensures.err (λ input h. stream_row c.in-Err.fault input [] h))

pub returns-in_err-verdict-clause-row : goal.returns-in_err-verdict-clause-row
returns-in_err-verdict-clause-row g c =
    let p = err_from_is_err_and c.from_residual.result c.from_residual.ensures.1 in
    rw (p.1, p.2) (IfSome_then (g.R.Read.remaining c.args.reader.now) c.in-Ok.ensures.ok (λ input r. c.in_err-verdict.ensures.row input r))

pub returns-in-Err-end-clause-row : goal.returns-in-Err-end-clause-row
returns-in-Err-end-clause-row g c =
    rw (c.told_of-in-Err-end.ensures.fault, c.told_of-in-Err-end.ensures.row)
    (IfSome_then (g.R.Read.remaining c.args.reader.now) c.in-Ok.ensures.ok
    (λ input r.
    let (cs, _, read, _, _) = c.in_ok-verdict.ensures.ok input r in
    stream_row c.in-Err-end.fault input cs (c.in-Err-end.ensures.err input cs read)))

pub returns-in-Err-conclude-clause-row : goal.returns-in-Err-conclude-clause-row
returns-in-Err-conclude-clause-row g c =
    IfSome_then (g.R.Read.remaining c.args.reader.now) c.in-Ok.ensures.ok (λ input r. no_row c.in-Err-conclude.fault input c.in-Err-conclude.ensures.why)

pub returns-in_err-verdict-clause-err : goal.returns-in_err-verdict-clause-err
returns-in_err-verdict-clause-err g c =
    let p = err_from_is_err_and c.from_residual.result c.from_residual.ensures.1 in
    rw (p.1, p.2) (IfSome_then (g.R.Read.remaining c.args.reader.now) c.in-Ok.ensures.ok (λ input r. c.in_err-verdict.ensures.err input r))

pub returns-in-Err-end-clause-err : goal.returns-in-Err-end-clause-err
returns-in-Err-end-clause-err g c =
    rw c.told_of-in-Err-end.ensures.fault
    (IfSome_then (g.R.Read.remaining c.args.reader.now) c.in-Ok.ensures.ok
    (λ input r.
    let (cs, text, read, told, appended) = c.in_ok-verdict.ensures.ok input r in
    stream_stops c.in-Err-end.fault input text cs c.in_ok-verdict.verdict (g.W.Write.contents c.args.writer.now) (g.W.Write.contents c.check_lines.new.writer)
    (before_fault_front input cs c.in_ok-verdict.last (g.R.Read.remaining c.check_lines.new.reader) read) (c.in-Err-end.ensures.err input cs read) told appended))

pub returns-in-Ok-conclude-clause-ok : goal.returns-in-Ok-conclude-clause-ok
returns-in-Ok-conclude-clause-ok g c =
    IfSome_then (g.R.Read.remaining c.args.reader.now) c.in-Ok.ensures.ok
    (λ input r.
    let (cs, text, read, told, appended) = c.in_ok-verdict.ensures.ok input r in
    concluded input text _ c.in_ok-verdict.verdict (g.W.Write.contents c.args.writer.now) (g.W.Write.contents c.check_lines.new.writer) (g.W.Write.contents c.conclude.new.writer) (c.in-Ok-end.ensures.ok input cs read) told appended c.in-Ok-conclude.ensures.ok)

pub returns-in-Err-conclude-clause-err : goal.returns-in-Err-conclude-clause-err
returns-in-Err-conclude-clause-err g c =
    IfSome_then (g.R.Read.remaining c.args.reader.now) c.in-Ok.ensures.ok
    (λ input r.
    let (cs, text, read, told, appended) = c.in_ok-verdict.ensures.ok input r in
    not_concluded c.in-Err-conclude.fault input text _ c.in_ok-verdict.verdict (g.W.Write.contents c.args.writer.now) (g.W.Write.contents c.check_lines.new.writer) (g.W.Write.contents c.conclude.new.writer) (c.in-Ok-end.ensures.ok input cs read) told appended c.in-Err-conclude.ensures.err)

pub returns-in-Ok-conclude-clause-end : goal.returns-in-Ok-conclude-clause-end
returns-in-Ok-conclude-clause-end g c =
    IfSome_then (g.R.Read.remaining c.args.reader.now) c.in-Ok.ensures.ok
    (λ input r.
    let (cs, text, read, told, appended) = c.in_ok-verdict.ensures.ok input r in
    subst (λ (o : Option (List ℕ)). IfSome o (λ _. IsAtEnd (g.R.Read.remaining c.end.new.reader))) read.holds.1 c.in-Ok-end.ensures.at_end)
