use Rattle.std.proofs.Common.{◌++◌, ◌∙◌, ℕ, List, take, sym}
use Rattle.std.proofs.KnownBytes.{Appends-trans}
use Rattle.sci_script.specs.Wholes.{shared_of}
use Rattle.std.specs.Io.KnownBytes.{Appends}
use Rattle.sci_trace.specs.Coding.{escaped}
use Rattle.sci_trace.specs.Pages.{head_of}
use Rattle.sci_trace.specs.Traces.{FormLeaves}
use Rattle.sci_trace.proofs.Coded.{ok_then}
use Rattle.sci_trace.proofs.Pages.{cut_in_front, cut_in_text, cut_in_end, cut_then, whole_then, closed_then}
use Rattle.sci_trace.proofs.drawing.draw_in.Goals as goal

pub returns-in-Err-clause-err : goal.returns-in-Err-clause-err
returns-in-Err-clause-err g c =
    let script = c.args.script.now in
    let s = shared_of c.args.desk.now.desk in
    let (n, less, front) = c.in-Err.ensures.err in
    (take n (head_of c.args.frame), cut_in_front (head_of c.args.frame) c.args.frame.end.now n script.size.nodes script.steps.items s s less, front)

pub returns-then-is_cut-clause-err : goal.returns-then-is_cut-clause-err
returns-then-is_cut-clause-err g c =
    let script = c.args.script.now in
    let s = shared_of c.args.desk.now.desk in
    let contents = g.W.Write.contents in
    let t = shared_of c.trace_as-traced.new.desk.desk in
    let (written, left, appended) = cut_then c.trace_as-traced.result
    (λ e. (written : List ℕ) × FormLeaves escaped script.size.nodes script.steps.items s e written t × Appends (contents c.put_head.new.out) (contents c.trace_as-traced.new.out) written)
    (sym c.is_cut.ensures ∙ c.if-is_cut.true) c.trace_as-traced.ensures.err in
    ((head_of c.args.frame) ++ written, cut_in_text (head_of c.args.frame) c.args.frame.end.now written script.size.nodes script.steps.items s t left, Appends-trans _ _ _ _ _ c.in-Ok.ensures.ok appended)

pub returns-in-Ok-put-clause-ok : goal.returns-in-Ok-put-clause-ok
returns-in-Ok-put-clause-ok g c =
    ok_then c.trace_as-traced.result _ _ c.trace_as-traced.ensures.ok
    (λ (traced, told, appended). (
      traced,
      told,
      Appends-trans _ _ _ _ _ (Appends-trans _ _ _ _ _ c.in-Ok.ensures.ok appended) c.in-Ok-put.ensures.ok,
    ))

pub returns-in-Ok-put-clause-err : goal.returns-in-Ok-put-clause-err
returns-in-Ok-put-clause-err g c =
    let script = c.args.script.now in
    closed_then c.trace_as-traced.result (head_of c.args.frame) c.args.frame.end.now script.size.nodes script.steps.items (shared_of c.args.desk.now.desk) (shared_of c.trace_as-traced.new.desk.desk)
    _ _ _ _ (sym c.is_cut.ensures ∙ c.if-is_cut.false) c.in-Ok.ensures.ok c.trace_as-traced.ensures.err c.in-Ok-put.ensures.ok

pub returns-in-Err-put-clause-err : goal.returns-in-Err-put-clause-err
returns-in-Err-put-clause-err g c =
    let script = c.args.script.now in
    let s = shared_of c.args.desk.now.desk in
    let t = shared_of c.trace_as-traced.new.desk.desk in
    let contents = g.W.Write.contents in
    let (traced, so_far, appended) = whole_then c.trace_as-traced.result script.size.nodes script.steps.items s t (contents c.put_head.new.out) (contents c.trace_as-traced.new.out)
    (sym c.is_cut.ensures ∙ c.if-is_cut.false)
    (ok_then c.trace_as-traced.result _ _ c.trace_as-traced.ensures.ok (λ all. all)) c.trace_as-traced.ensures.err in
    let (n, less, front) = c.in-Err-put.ensures.err in (
      ((head_of c.args.frame) ++ escaped traced) ++ take n c.args.frame.end.now,
      cut_in_end (head_of c.args.frame) c.args.frame.end.now traced n script.size.nodes script.steps.items s t so_far less,
      Appends-trans _ _ _ _ _ (Appends-trans _ _ _ _ _ c.in-Ok.ensures.ok appended) front,
    )
