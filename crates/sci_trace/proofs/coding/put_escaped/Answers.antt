use Rattle.std.proofs.Common.{subst, sym, List, ℕ}
use Rattle.std.specs.Io.KnownBytes.{Appends}
use Rattle.std.proofs.KnownBytes.{Appends-nil, Appends-trans}
use Rattle.std.proofs.lemmas.List.{take_all}
use Rattle.sci_trace.specs.Coding.{escaped}
use Rattle.sci_trace.proofs.Coded.{escaped_cut, escaped_more, on_err}
use Rattle.sci_trace.proofs.coding.put_escaped.Goals as goal

pub returns-in_err-put-clause-err : goal.returns-in_err-put-clause-err
returns-in_err-put-clause-err g c =
    let contents = g.W.Write.contents in
    let (n, less, front) = rw c.entity.ensures at c.in_err-put.ensures.err in
    let (m, short, is) = escaped_cut c.args.bytes.now c.loop-byte.byte-index 0 n c.loop-byte-test.true less in
    let reached = Appends-trans _ _ _ _ _ c.loop-byte.invariant front in
    on_err c.from_residual.result _ (m, short, subst (λ (x : List ℕ). Appends (contents c.args.out.now) (contents c.put.new.out) x) is reached)

pub loop-byte-init : goal.loop-byte-init
loop-byte-init g c = Appends-nil _

pub loop-byte-preserved : goal.loop-byte-preserved
loop-byte-preserved g c =
    let contents = g.W.Write.contents in
    subst (λ (x : List ℕ). Appends (contents c.args.out.now) (contents c.put.new.out) x) (sym (escaped_more c.args.bytes.now c.loop-byte.byte-index 0 c.loop-byte-test.true))
    (Appends-trans _ _ _ _ _ c.loop-byte.invariant (rw c.entity.ensures at c.in_ok-put.ensures.ok))

pub returns-clause-ok : goal.returns-clause-ok
returns-clause-ok g c =
    let contents = g.W.Write.contents in
    subst (λ (x : List ℕ). Appends (contents c.args.out.now) (contents c.loop-byte.out) (escaped x)) (take_all c.loop-byte.byte-index c.args.bytes.now c.loop-byte-test.false) c.loop-byte.invariant
