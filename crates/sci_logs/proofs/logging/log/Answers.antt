use Rattle.std.proofs.Common.{◌≡◌, rules, false}
use Rattle.std.specs.Io.KnownBytes.{Appends}
use Rattle.sci_logs.specs.TurnText.{log_head}
use Rattle.sci_trace.specs.NoteText.{note_bytes}
use Rattle.sci_trace.proofs.Coded.{err_then}
use Rattle.sci_logs.proofs.Logged.{logged, log_left, ended_so}
use Rattle.sci_logs.proofs.logging.log.Goals as goal

pub returns-clause-ok : goal.returns-clause-ok
returns-clause-ok g c =
    let script = c.args.script.now in
    let last = c.run-ran.new.desk in
    let head : note_bytes c.push_head.new.text ≡ log_head script.size script.openings.items = search rules in
    ended_so c.run-ran.result c.put_log.result _
    (last.log.is_cut ≡ false) (Appends (g.W.Write.contents c.args.out.now) (g.W.Write.contents c.put_log.new.out) (note_bytes last.log.text)) _
    c.put_log.ensures.ok c.run-ran.ensures.ok
    (λ (text, printed, sunk) whole appended. (note_bytes last.log.text, logged script.size script.openings.items script.steps.items _ last text head c.new.ensures.whole whole printed, appended))

pub returns-clause-err : goal.returns-clause-err
returns-clause-err g c =
    let script = c.args.script.now in
    let last = c.run-ran.new.desk in
    let head : note_bytes c.push_head.new.text ≡ log_head script.size script.openings.items = search rules in
    err_then c.put_log.result _ _ c.put_log.ensures.err
    (λ e (written, put, appended). (
      written,
      log_left script.size script.openings.items script.steps.items _ last c.run-ran.result _ e written head c.new.ensures.whole c.run-ran.ensures.ok c.run-ran.ensures.err put,
      appended,
    ))
