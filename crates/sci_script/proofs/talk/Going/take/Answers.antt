use Rattle.std.proofs.Common.{string_bytes}
use Rattle.std.proofs.lemmas.Result.{err_from_is_err_and}
use Rattle.sci_script.specs.Shared.{shared_is_open, shared_does}
use Rattle.sci_script.specs.Wholes.{shared_of}
use Rattle.sci_script.proofs.Through.{prints, stops_at}
use Rattle.sci_script.proofs.talk.Going.take.Goals as goal

pub returns-clause-ok : goal.returns-clause-ok
returns-clause-ok c =
    prints shared_of shared_is_open (λ d event e. shared_does (shared_of d) event (shared_of e)) shared_does (λ d event e h. h) c.args.self.now.words c.args.self.now.desk c.args.step.now.command
    (string_bytes c.perform.new.text) c.perform.new.desk c.in_ok-perform.ensures.ok

pub returns-in_err-perform-clause-err : goal.returns-in_err-perform-clause-err
returns-in_err-perform-clause-err c =
    let p = err_from_is_err_and c.from_residual.result c.from_residual.ensures.1 in
    rw (p.1, p.2) (stops_at shared_of shared_is_open (λ d event e. shared_does (shared_of d) event (shared_of e)) shared_does (λ d event e h. h) c.args.self.now.desk.size.nodes c.args.self.now.desk c.args.step.now
    c.in_err-perform.field-0.0 c.perform.new.desk c.in_err-perform.ensures.err)
