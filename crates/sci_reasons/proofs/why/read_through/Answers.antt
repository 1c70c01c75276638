use Rattle.std.proofs.Common.{arith, [], ◌∷◌, ◌++◌, ◌∙◌, sym}
use Rattle.std.proofs.lemmas.Result.{err_from_is_err_and, IfErr-weaker, on_ok_weaker}
use Rattle.sci_reasons.proofs.why.read_through.Goals as goal

pub loop-init : goal.loop-init
loop-init c = record { read = ([], c.in_ok-stream.ensures.ok); at = c.in_ok-stream.ensures.first; all = sym c.count-end.ensures.value }

pub next-requires : goal.next-requires
next-requires c = omega (arith, c.loop.invariant.at, c.loop.invariant.all, c.loop-test.true)

pub returns-in_err-next-clause-err : goal.returns-in_err-next-clause-err
returns-in_err-next-clause-err c =
    let p = err_from_is_err_and c.from_residual-in_err-next.result c.from_residual-in_err-next.ensures.1 in
    let (lines, read) = c.loop.invariant.read in
    rw (p.1, p.2) (lines, c.in_err-next.ensures.err c.args.text.now lines read)

pub loop-preserved : goal.loop-preserved
loop-preserved c =
    let (lines, read) = c.loop.invariant.read in
    record {
      read = (lines ++ c.in_ok-next.field-0-0 ∷ [], c.in_ok-next.ensures.ok c.args.text.now lines read);
      at = omega (arith, c.in_ok-next.ensures.one.0, c.loop.invariant.at);
      all = c.in_ok-next.ensures.one.1 ∙ c.loop.invariant.all;
    }

pub end-requires : goal.end-requires
end-requires c = omega (arith, c.loop.invariant.at, c.loop.invariant.all, c.loop-test.false, c.loop.auto.counter-end)

pub returns-clause-ok : goal.returns-clause-ok
returns-clause-ok c =
    let (lines, read) = c.loop.invariant.read in
    on_ok_weaker c.end.result (λ f. (record { nodes = c.loop.stream.head.nodes; lines = lines }, f c.args.text.now lines read)) c.end.ensures.ok

pub returns-clause-err : goal.returns-clause-err
returns-clause-err c =
    let (lines, read) = c.loop.invariant.read in
    IfErr-weaker c.end.result _ _ (λ e f. (lines, f c.args.text.now lines read)) c.end.ensures.err
