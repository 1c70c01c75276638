use Rattle.std.proofs.Common.{refl}
use Rattle.sci_script.specs.Reasons.{ends, stops}
use Rattle.sci_script.specs.Request.{no_words}
use Rattle.sci_script.specs.Shared.{shared_is_open, shared_does}
use Rattle.sci_script.specs.Wholes.{shared_of}
use Rattle.sci_script.proofs.Reading.{if_ok_then}
use Rattle.sci_script.proofs.Through.{prints_all, leaves}
use Rattle.sci_script.proofs.commands.Script.why_stopped.Goals as goal

pub returns-in-Ok : goal.returns-in-Ok
returns-in-Ok c =
    let desk = c.in_ok-desk.desk in
    let last = c.run.new.desk in
    let (text, printed, appended) = c.in-Ok.ensures.ok in
    ends text
    (shared_of desk, shared_of last, c.in_ok-desk.ensures.opened, prints_all shared_of shared_is_open (λ d event e. shared_does (shared_of d) event (shared_of e)) shared_does (λ d event e h. h) no_words desk c.args.self.now.steps.items text last printed)
    refl

pub returns : goal.returns
returns c =
    let desk = c.in_ok-desk.desk in
    let last = c.run.new.desk in
    let (written, left, appended) = c.in-Err.ensures.err in
    let seen = leaves shared_of shared_is_open (λ d event e. shared_does (shared_of d) event (shared_of e)) shared_does (λ d event e h. h) c.args.self.now.size.nodes desk c.args.self.now.steps.items c.in-Err.refusal written last left in
    if_ok_then c.why_left.result _ _ c.why_left.ensures
    (λ why is. stops (shared_of desk) (shared_of last) c.in-Err.refusal written c.in_ok-desk.ensures.opened seen (is (shared_of desk) written seen))
