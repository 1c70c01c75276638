use Rattle.std.proofs.Common.{arith, take, ◌-◌, ◌+◌, ◌≡◌}
use Rattle.std.proofs.lemmas.List.{take_more_set, take_all}
use Rattle.std.proofs.lemmas.Result.{err_from_is_err_and}
use Rattle.std.proofs.Math.ListN.{length-set}
use Rattle.sci_logs.specs.LineText.{values_at}
use Rattle.sci_logs.proofs.Values.{value_more, value_missing, values_done}
use Rattle.sci_logs.proofs.fields.values.Goals as goal

pub returns-in_err-values : goal.returns-in_err-values
returns-in_err-values c =
    let p = err_from_is_err_and c.from_residual.result c.from_residual.ensures.1 in
    rw (p.1, p.2) (value_missing (take c.loop-i.i c.loop-i.values) (8 - c.loop-i.i) (8 - (c.loop-i.i + 1)) c.loop-i.rest.now c.in_err-values.field-0.0 (values_at 8 c.args.text.now) (omega arith) c.in_err-values.ensures c.loop-i.invariant.left)

pub loop-i-preserved : goal.loop-i-preserved
loop-i-preserved c =
    record {
      left = rw (take_more_set c.loop-i.values c.loop-i.i c.in_ok-values.field-0-0 (omega arith))
          (value_more (take c.loop-i.i c.loop-i.values) (8 - c.loop-i.i) (8 - (c.loop-i.i + 1)) c.loop-i.rest.now c.in_ok-values.field-0-0 c.in_ok-values.field-0-1.now (values_at 8 c.args.text.now) (omega arith) c.in_ok-values.ensures c.loop-i.invariant.left);
      eight = simp length-set c.loop-i.invariant.eight;
    }

pub returns : goal.returns
returns c =
    let i : c.loop-i.i ≡ 8 = omega (arith, c.loop-i.auto.i-end, c.loop-i-test.false) in
    let all : take c.loop-i.i c.loop-i.values ≡ c.loop-i.values = take_all c.loop-i.i c.loop-i.values (omega (arith, c.loop-i.invariant.eight, i)) in
    values_done c.loop-i.values (8 - c.loop-i.i) c.loop-i.rest.now (values_at 8 c.args.text.now) (omega (arith, i)) (rw all at c.loop-i.invariant.left)
