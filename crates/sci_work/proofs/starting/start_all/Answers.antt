use Rattle.std.proofs.Common.{◌<◌, ◌∙◌, arith, ap, length, subst, vec_len}
use Rattle.sci_fine.proofs.Elements.{inside}
use Rattle.sci_work.specs.Starts.{IsPartDone}
use Rattle.sci_work.proofs.Seated.{or_at}
use Rattle.sci_work.proofs.starting.start_all.Goals as goal

pub returns-clause-each : goal.returns-clause-each
returns-clause-each g c = λ k one at.
    let handles = c.start_each-handles.result in let done = c.joined.result in
    let near : k < length done.items = inside done.items one k at in
    let below : k < vec_len handles = omega (arith, near, done.ok, c.joined.ensures.len) in
    let e = c.joined.ensures.each k one below in
    let p = c.start_each-handles.ensures.each k e.1.handle below in
    let lines = ap (λ h. h.promise.lines.now) e.1.handle_is ∙ p.0 in
    let program = ap (λ h. h.promise.program) e.1.handle_is ∙ p.1 in
    let number = ap (λ h. h.promise.number) e.1.handle_is ∙ p.2 in
    let recording = ap (λ h. h.promise.recording) e.1.handle_is ∙ p.3 in
    let first = rw lines at e.1.kept in let second = rw program at first in let third = rw number at second in let kept = rw recording at third in
    subst (λ d. IsPartDone c.args.recording c.args.lines.now c.args.program k d.hand.items d.share) (or_at done.items k one one at) kept
