use Rattle.std.proofs.Common.{rules, arith, [], ◌∷◌, ◌++◌, ◌∙◌}
use Rattle.std.proofs.KnownBytes.{Appends-nil, Appends-trans}
use Rattle.sci_dump.proofs.Streaming.{before_fault_front}
use Rattle.sci_serve.proofs.Telling.{told_none, stream_stops, stream_row, no_row, tell_stops}
use Rattle.sci_serve.proofs.large.check_lines.Goals as goal

pub loop-number-init : goal.loop-number-init
loop-number-init g c = record { told = λ input r. ([], [], r, told_none, Appends-nil _); at = c.requires; all = search rules }

pub next-requires : goal.next-requires
next-requires g c = omega (arith, c.loop-number.invariant.at, c.loop-number.invariant.all, c.loop-number-test.true)

pub returns-in-Err-clause-err : goal.returns-in-Err-clause-err
returns-in-Err-clause-err g c = λ input r.
    let (cs, text, read, told, appended) = c.loop-number.invariant.told input r in
    rw c.told_of.ensures.fault
    (stream_stops c.in-Err.fault input text cs c.loop-number.verdict (g.W.Write.contents c.args.writer.now) (g.W.Write.contents c.loop-number.writer)
    (before_fault_front input cs c.loop-number.stream (g.R.Read.remaining c.loop-number.reader) read) (c.in-Err.ensures.err input cs read) told appended)

pub returns-in-Err-clause-row : goal.returns-in-Err-clause-row
returns-in-Err-clause-row g c = λ input r.
    let (cs, _, read, _, _) = c.loop-number.invariant.told input r in
    rw (c.told_of.ensures.fault, c.told_of.ensures.row) (stream_row c.in-Err.fault input cs (c.in-Err.ensures.err input cs read))

pub returns-in-Err-tell-clause-row : goal.returns-in-Err-tell-clause-row
returns-in-Err-tell-clause-row g c = λ input r. no_row c.in-Err-tell.fault input c.in-Err-tell.ensures.why

pub returns-in-Err-tell-clause-err : goal.returns-in-Err-tell-clause-err
returns-in-Err-tell-clause-err g c = λ input r.
    let (cs, text, read, told, appended) = c.loop-number.invariant.told input r in
    tell_stops c.in-Err-tell.fault input text cs c.in-Ok.closed c.loop-number.verdict c.loop-number.number (g.W.Write.contents c.args.writer.now) (g.W.Write.contents c.loop-number.writer) (g.W.Write.contents c.tell.new.writer)
    (before_fault_front input cs c.loop-number.stream (g.R.Read.remaining c.loop-number.reader) read)
    (before_fault_front input (cs ++ c.in-Ok.closed ∷ []) c.in-Ok.next (g.R.Read.remaining c.next.new.reader) (c.in-Ok.ensures.ok input cs read))
    (read.many ∙ c.loop-number.invariant.at) told appended c.in-Err-tell.ensures.err

pub loop-number-preserved : goal.loop-number-preserved
loop-number-preserved g c = record {
  told = λ input r.
      let (cs, text, read, told, appended) = c.loop-number.invariant.told input r in
      let (more, tells, wrote) = c.in-Ok-tell.ensures.ok in (
        cs ++ c.in-Ok.closed ∷ [],
        text ++ more,
        c.in-Ok.ensures.ok input cs read,
        tells cs text (read.many ∙ c.loop-number.invariant.at) told,
        Appends-trans (g.W.Write.contents c.args.writer.now) (g.W.Write.contents c.loop-number.writer) (g.W.Write.contents c.tell.new.writer) text more appended wrote,
      );
  at = omega (arith, c.in-Ok.ensures.one.0, c.loop-number.invariant.at);
  all = c.in-Ok.ensures.one.1 ∙ c.loop-number.invariant.all;
}

pub returns-clause-ok : goal.returns-clause-ok
returns-clause-ok g c = λ input r. c.loop-number.invariant.told input r

pub returns-clause-all : goal.returns-clause-all
returns-clause-all g c = omega (arith, c.loop-number.invariant.at, c.loop-number.invariant.all, c.loop-number-test.false, c.loop-number.auto.number-end)
