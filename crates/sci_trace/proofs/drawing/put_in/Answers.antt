use Rattle.std.proofs.Common.{◌++◌, take}
use Rattle.std.proofs.KnownBytes.{Appends-trans}
use Rattle.sci_trace.specs.Coding.{escaped}
use Rattle.sci_trace.specs.Pages.{head_of, page_in}
use Rattle.sci_trace.proofs.Coded.{on_err, ok_then, fails_then}
use Rattle.sci_trace.proofs.Pages.{front_in_front, front_in_text, front_in_end, front_written}
use Rattle.sci_trace.proofs.drawing.put_in.Goals as goal

pub returns-in_err-put_head-clause-err : goal.returns-in_err-put_head-clause-err
returns-in_err-put_head-clause-err g c =
    let head = head_of c.args.frame in
    let end = c.args.frame.end.now in
    let text = c.args.text.now in
    let (n, less, front) = c.in_err-put_head.ensures.err in
    on_err c.from_residual.result _ (front_written _ _ (page_in head end text) (take n head) (front_in_front head end text n less) front)

pub returns-in_err-put_coded-clause-err : goal.returns-in_err-put_coded-clause-err
returns-in_err-put_coded-clause-err g c =
    let head = head_of c.args.frame in
    let end = c.args.frame.end.now in
    let text = c.args.text.now in
    let (n, less, front) = c.in_err-put_coded.ensures.err in
    on_err c.from_residual-in_err-put_coded.result _
    (front_written _ _ (page_in head end text) (head ++ take n (escaped text)) (front_in_text head end text n less) (Appends-trans _ _ _ _ _ c.in_ok-put_head.ensures.ok front))

pub returns-clause-ok : goal.returns-clause-ok
returns-clause-ok g c =
    ok_then c.put.result _ _ c.put.ensures.ok
    (λ behind. Appends-trans _ _ _ _ _ (Appends-trans _ _ _ _ _ c.in_ok-put_head.ensures.ok c.in_ok-put_coded.ensures.ok) behind)

pub returns-clause-err : goal.returns-clause-err
returns-clause-err g c =
    let head = head_of c.args.frame in
    let end = c.args.frame.end.now in
    let text = c.args.text.now in
    fails_then c.put.result _ _ c.put.ensures.err
    (λ (n, less, front). front_written _ _ (page_in head end text) ((head ++ escaped text) ++ take n end)
    (front_in_end head end text n less)
    (Appends-trans _ _ _ _ _ (Appends-trans _ _ _ _ _ c.in_ok-put_head.ensures.ok c.in_ok-put_coded.ensures.ok) front))
