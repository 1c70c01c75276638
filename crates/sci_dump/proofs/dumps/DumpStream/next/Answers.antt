use Rattle.std.proofs.Common.{ℕ, refl, subst}
use Rattle.std.proofs.lemmas.Result.{err_from_is_err_and}
use Rattle.sci_dump.specs.Reading.{closed_at}
use Rattle.sci_dump.specs.Streams.{StopsAt, from_line}
use Rattle.sci_dump.proofs.Streaming.{read_on, stops_behind}
use Rattle.sci_dump.proofs.dumps.DumpStream.next.Goals as goal

pub returns-in_err-found-clause-err : goal.returns-in_err-found-clause-err
returns-in_err-found-clause-err g c =
    let p = err_from_is_err_and c.from_residual.result c.from_residual.ensures.1 in
    let s = c.args.self in
    rw (p.1, p.2)
    (λ text lines r. stops_behind c.in_err-found.field-0.0 text lines s (g.R.Read.remaining c.args.reader.now) r c.requires
    (subst (λ (n : ℕ). StopsAt text c.in_err-found.field-0.0 (closed_at s.head.layout n s.head.nodes s.row.number (from_line s.row.number text))) c.from.ensures (c.in_err-found.ensures.exact text r.head r.holds)))

pub returns-clause-ok : goal.returns-clause-ok
returns-clause-ok g c = λ text lines r.
    let s = c.args.self in
    let found = rw c.from.ensures at (c.in_ok-found.ensures.exact text r.head r.holds) in
    read_on text lines c.in_ok-found.found.closed s _ (g.R.Read.remaining c.args.reader.now) (g.R.Read.remaining c.read_closed.new.reader) r c.requires found.0 found.1 refl refl
