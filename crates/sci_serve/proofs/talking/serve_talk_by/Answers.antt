use Rattle.std.proofs.Common.{rules, ◌∙◌, ◌++◌, [], ℕ, List, take, refl, sym}
use Rattle.std.proofs.KnownBytes.{Appends-nil, Appends-trans, Consumes-nil, Consumes-trans, Consumes-kept, Consumes-whole}
use Rattle.std.proofs.lemmas.List.{append-nil}
use Rattle.std.proofs.lemmas.Result.{err_from_is_err_and}
use Rattle.std.specs.Io.KnownBytes.{Appends, Consumes, IsAtEnd}
use Rattle.std.specs.Str.Lines.{lines}
use Rattle.sci_script.specs.Talks.{Standing, Silent}
use Rattle.sci_script.specs.Talkers.{standing_of}
use Rattle.sci_serve.specs.declared.faults.SimFault.TheVariants.{CannotRead, CannotWrite}
use Rattle.sci_serve.specs.Talked.{Talks, StopsTalking}
use Rattle.sci_serve.proofs.Heard.{talks_join, ends_none, ends_more, lines_read, talks_read, lines_begun, stops_reading, stops_hearing, of_front, Consumes-still}
use Rattle.sci_serve.proofs.talking.serve_talk_by.Goals.{in-Ok+in_ok-hear-in-Ok, in-Err}
use Rattle.sci_serve.proofs.talking.serve_talk_by.Goals as goal

pub loop-init : goal.loop-init
loop-init g c = ([], Consumes-nil _, [], [], [], ends_none [], c.new-talker.ensures.held, (refl, c.new-talker.ensures.talk), Appends-nil _)

pub loop-preserved : goal.loop-preserved
loop-preserved g c =
    let (seen, consumed, ended, left, text, ends, held, talked, appended) = c.loop.invariant in
    elim c.match-read.branch [
      | in-Ok+in_ok-hear-in-Ok w ↦
          let bytes = take w.in-Ok.count c.read.new.buf in
          let (begun, rest, said, goes_on, held_now, now, out) = w.in_ok-hear-in-Ok.ensures.ok left held in
          rw (w.talker-is, w.writer-is) (
            seen ++ bytes,
            Consumes-trans _ _ _ _ _ consumed w.in-Ok.ensures.bytes.0,
            ended ++ begun,
            rest,
            text ++ said,
            ends_more [] seen bytes left rest ended begun ends goes_on,
            held_now,
            talks_join Silent _ _ ended begun text said talked now,
            Appends-trans _ _ _ _ _ appended out,
          )
      | in-Err w ↦ rw (w.talker-is, w.writer-is) (seen, Consumes-kept _ _ _ _ consumed w.in-Err.ensures.bytes, ended, left, text, ends, held, talked, appended)
    ]

pub returns-in-Ok-eq0-clause-ok : goal.returns-in-Ok-eq0-clause-ok
returns-in-Ok-eq0-clause-ok g c =
    let (seen, consumed, ended, left, text, ends, held, talked, appended) = c.loop.invariant in
    let (last, now, out) = c.in_ok-finish-in-Ok-eq0.ensures.ok left held in
    let took : Consumes (g.R.Read.remaining c.loop.reader) (g.R.Read.remaining c.read.new.self) [] = search rules in
    let over : IsAtEnd (g.R.Read.remaining c.read.new.self) = search rules in
    Consumes-whole (g.R.Read.remaining c.args.reader.now) (g.R.Read.remaining c.read.new.self) seen
    (λ input. (x : List ℕ) × (t : Standing) × Talks Silent (lines input) x t × Appends (g.W.Write.contents c.args.writer.now) (g.W.Write.contents c.finish.new.out) x)
    (Consumes-still _ _ _ seen consumed took) over
    (text ++ last, standing_of c.finish.new.self.talk, talks_read seen left text last ended _ _ ends talked now, Appends-trans _ _ _ _ _ appended out)

pub returns-in_err-finish-in-Ok-eq0-clause-err : goal.returns-in_err-finish-in-Ok-eq0-clause-err
returns-in_err-finish-in-Ok-eq0-clause-err g c =
    let p = err_from_is_err_and c.from_residual.result c.from_residual.ensures.1 in
    let (seen, consumed, ended, left, text, ends, held, talked, appended) = c.loop.invariant in
    let (last, n, now, out) = c.in_err-finish-in-Ok-eq0.ensures.err left held in
    let took : Consumes (g.R.Read.remaining c.loop.reader) (g.R.Read.remaining c.read.new.self) [] = search rules in
    let over : IsAtEnd (g.R.Read.remaining c.read.new.self) = search rules in
    rw (p.1, p.2)
    (Consumes-whole (g.R.Read.remaining c.args.reader.now) (g.R.Read.remaining c.read.new.self) seen
    (λ input. (x : List ℕ) × StopsTalking CannotWrite input x × Appends (g.W.Write.contents c.args.writer.now) (g.W.Write.contents c.finish.new.out) x)
    (Consumes-still _ _ _ seen consumed took) over
    (text ++ take n last, stops_hearing seen text last n _ _ ended (lines left) [] (lines_read seen left ended ends ∙ sym (append-nil (ended ++ lines left))) talked now, Appends-trans _ _ _ _ _ appended out))

pub returns-in_err-hear-in-Ok-clause-err : goal.returns-in_err-hear-in-Ok-clause-err
returns-in_err-hear-in-Ok-clause-err g c =
    let p = err_from_is_err_and c.from_residual-in_err-hear-in-Ok.result c.from_residual-in_err-hear-in-Ok.ensures.1 in
    let (seen, consumed, ended, left, text, ends, held, talked, appended) = c.loop.invariant in
    let bytes = take c.in-Ok.count c.read.new.buf in
    let (begun, said, n, begins, now, out) = c.in_err-hear-in-Ok.ensures.err left held in
    rw (p.1, p.2)
    (of_front (g.R.Read.remaining c.args.reader.now) (g.R.Read.remaining c.read.new.self) (seen ++ bytes)
    (λ input. (x : List ℕ) × StopsTalking CannotWrite input x × Appends (g.W.Write.contents c.args.writer.now) (g.W.Write.contents c.hear.new.out) x)
    (Consumes-trans _ _ _ _ _ consumed c.in-Ok.ensures.bytes.0)
    (λ more.
    let (others, is) = lines_begun seen bytes left more ended begun ends begins in
    (text ++ take n said, stops_hearing ((seen ++ bytes) ++ more) text said n _ _ ended begun others is talked now, Appends-trans _ _ _ _ _ appended out)))

pub returns-in-Err-2-clause-err : goal.returns-in-Err-2-clause-err
returns-in-Err-2-clause-err g c =
    let (seen, consumed, ended, left, text, ends, held, talked, appended) = c.loop.invariant in
    of_front (g.R.Read.remaining c.args.reader.now) (g.R.Read.remaining c.read.new.self) seen
    (λ input. (x : List ℕ) × StopsTalking CannotRead input x × Appends (g.W.Write.contents c.args.writer.now) (g.W.Write.contents c.loop.writer) x) (Consumes-kept _ _ _ _ consumed c.in-Err.ensures.bytes)
    (λ more. (text, stops_reading (seen ++ more) text _ ended (lines (left ++ more)) (ends more) talked, appended))

pub returns-clause-err : goal.returns-clause-err
returns-clause-err g c =
    let (seen, consumed, ended, left, text, ends, held, talked, appended) = c.loop.invariant in
    of_front (g.R.Read.remaining c.args.reader.now) (g.R.Read.remaining c.loop.reader) seen
    (λ input. (x : List ℕ) × StopsTalking CannotRead input x × Appends (g.W.Write.contents c.args.writer.now) (g.W.Write.contents c.loop.writer) x) consumed
    (λ more. (text, stops_reading (seen ++ more) text _ ended (lines (left ++ more)) (ends more) talked, appended))
