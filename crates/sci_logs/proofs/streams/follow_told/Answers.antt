use Rattle.std.proofs.Common.{rules, ◌≡◌, ◌<◌, ◌∙◌, ◌++◌, ℕ, List, IfSome, Ok, Err, length, arith, ap, subst}
use Rattle.std.specs.Io.BufRead.{take_through}
use Rattle.std.specs.Io.KnownBytes.{IsAtEnd}
use Rattle.sci_logs.specs.declared.why.Due.{Due}
use Rattle.sci_logs.specs.Logs.{Feeds}
use Rattle.sci_logs.specs.Reasons.{due_of, would_tell}
use Rattle.sci_logs.specs.Streams.{without_end}
use Rattle.sci_logs.proofs.Cutting.{stands_next, stops_here, ended_ok, ended_err}
use Rattle.sci_logs.proofs.streams.follow_told.Goals as goal

pub returns-in-Ok-eq0-clause-ok : goal.returns-in-Ok-eq0-clause-ok
returns-in-Ok-eq0-clause-ok g c =
    let over : IsAtEnd (g.R.Read.remaining c.loop-number.reader) = search rules in
    ended_ok (g.R.Read.remaining c.args.reader.now) (g.R.Read.remaining c.loop-number.reader) c.loop-number.log c.loop-number.number c.end.result c.loop-number.invariant over c.end.ensures

pub returns-in-Ok-eq0-clause-err : goal.returns-in-Ok-eq0-clause-err
returns-in-Ok-eq0-clause-err g c =
    let over : IsAtEnd (g.R.Read.remaining c.loop-number.reader) = search rules in
    ended_err (g.R.Read.remaining c.args.reader.now) (g.R.Read.remaining c.loop-number.reader) c.loop-number.log c.loop-number.number c.end.result c.loop-number.invariant over c.end.ensures

pub returns-in-Err-feed-clause-err : goal.returns-in-Err-feed-clause-err
returns-in-Err-feed-clause-err g c =
    let line = c.read_until.new.buf.items in
    let had = g.R.Read.remaining c.loop-number.reader in
    let took : IfSome had (λ xs. line ≡ take_through 10 xs) = subst (λ (o : List ℕ). IfSome had (λ xs. line ≡ o ++ take_through 10 xs)) c.clear.ensures.items c.in-Ok.ensures.bytes in
    let some : 0 < length line = omega (arith, c.in-Ok.field-0-test, c.in-Ok.ensures.ok, c.read_until.new.buf.ok.0) in
    let said : c.without_end-text.result.now ≡ without_end line = c.without_end-text.ensures ∙ ap without_end c.deref.ensures.value in
    stops_here (g.R.Read.remaining c.args.reader.now) had c.loop-number.log c.in-Err-feed.fault c.why.result c.loop-number.number line c.loop-number.invariant took some
    (subst (λ (x : List ℕ). Feeds c.loop-number.number x c.loop-number.log (Err c.in-Err-feed.fault)) said c.in-Err-feed.ensures)
    (subst (λ (x : List ℕ). c.why.result ≡ would_tell c.in-Err-feed.fault (due_of c.loop-number.log) x) said (subst (λ (d : Due). c.why.result ≡ would_tell c.in-Err-feed.fault d c.without_end-text.result.now) c.new-due.ensures c.why.ensures))

pub loop-number-preserved : goal.loop-number-preserved
loop-number-preserved g c =
    let line = c.read_until.new.buf.items in
    let had = g.R.Read.remaining c.loop-number.reader in
    let took : IfSome had (λ xs. line ≡ take_through 10 xs) = subst (λ (o : List ℕ). IfSome had (λ xs. line ≡ o ++ take_through 10 xs)) c.clear.ensures.items c.in-Ok.ensures.bytes in
    let some : 0 < length line = omega (arith, c.in-Ok.field-0-test, c.in-Ok.ensures.ok, c.read_until.new.buf.ok.0) in
    let said : c.without_end-text.result.now ≡ without_end line = c.without_end-text.ensures ∙ ap without_end c.deref.ensures.value in
    stands_next (g.R.Read.remaining c.args.reader.now) had (g.R.Read.remaining c.read_until.new.self) c.loop-number.log c.in-Ok-feed.next c.loop-number.number line c.loop-number.invariant took c.in-Ok.ensures.rest some
    (subst (λ (x : List ℕ). Feeds c.loop-number.number x c.loop-number.log (Ok c.in-Ok-feed.next)) said c.in-Ok-feed.ensures)
