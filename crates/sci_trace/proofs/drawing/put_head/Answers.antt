use Rattle.std.proofs.Common.{◌++◌, take}
use Rattle.std.proofs.KnownBytes.{Appends-trans}
use Rattle.sci_trace.specs.Coding.{escaped}
use Rattle.sci_trace.specs.Pages.{head_of}
use Rattle.sci_trace.proofs.Coded.{on_err, ok_then, fails_then}
use Rattle.sci_trace.proofs.Pages.{front_in_front, front_in_text, front_in_end, front_written}
use Rattle.sci_trace.proofs.drawing.put_head.Goals as goal

pub returns-in_err-put-clause-err : goal.returns-in_err-put-clause-err
returns-in_err-put-clause-err g c =
    let frame = c.args.frame in
    let (n, less, front) = c.in_err-put.ensures.err in
    on_err c.from_residual.result _
    (front_written _ _ (head_of frame) (take n frame.front.now) (front_in_front frame.front.now frame.seam.now frame.source.now n less) front)

pub returns-in_err-put_coded-clause-err : goal.returns-in_err-put_coded-clause-err
returns-in_err-put_coded-clause-err g c =
    let frame = c.args.frame in
    let (n, less, front) = c.in_err-put_coded.ensures.err in
    on_err c.from_residual-in_err-put_coded.result _
    (front_written _ _ (head_of frame) (frame.front.now ++ take n (escaped frame.source.now)) (front_in_text frame.front.now frame.seam.now frame.source.now n less)
    (Appends-trans _ _ _ _ _ c.in_ok-put.ensures.ok front))

pub returns-clause-ok : goal.returns-clause-ok
returns-clause-ok g c =
    ok_then c.put-2.result _ _ c.put-2.ensures.ok
    (λ behind. Appends-trans _ _ _ _ _ (Appends-trans _ _ _ _ _ c.in_ok-put.ensures.ok c.in_ok-put_coded.ensures.ok) behind)

pub returns-clause-err : goal.returns-clause-err
returns-clause-err g c =
    let frame = c.args.frame in
    fails_then c.put-2.result _ _ c.put-2.ensures.err
    (λ (n, less, front). front_written _ _ (head_of frame) ((frame.front.now ++ escaped frame.source.now) ++ take n frame.seam.now)
    (front_in_end frame.front.now frame.seam.now frame.source.now n less)
    (Appends-trans _ _ _ _ _ (Appends-trans _ _ _ _ _ c.in_ok-put.ensures.ok c.in_ok-put_coded.ensures.ok) front))
