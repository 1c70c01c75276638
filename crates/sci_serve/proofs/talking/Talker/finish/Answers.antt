use Rattle.sci_script.specs.Talkers.{standing_of}
use Rattle.sci_serve.proofs.Heard.{talks_part, on_err_then}
use Rattle.sci_serve.proofs.Serving.{ok_then}
use Rattle.sci_serve.proofs.talking.Talker.finish.Goals as goal

pub returns-clause-ok : goal.returns-clause-ok
returns-clause-ok g c =
    ok_then c.answer.result _ _ c.answer.ensures.ok
    (λ answers part h.
    let (text, now, appended) = answers part h in
    (text, talks_part (standing_of c.args.self.now.talk) (standing_of c.answer.new.self.talk) part text c.is_empty.result (c.is_empty.ensures part h.0) c.if-is_empty.false h.1 now, appended))

pub returns-clause-err : goal.returns-clause-err
returns-clause-err g c =
    on_err_then c.answer.result _ _ c.answer.ensures.err
    (λ answers part h.
    let (text, n, now, appended) = answers part h in
    (text, n, talks_part (standing_of c.args.self.now.talk) (standing_of c.answer.new.self.talk) part text c.is_empty.result (c.is_empty.ensures part h.0) c.if-is_empty.false h.1 now, appended))
