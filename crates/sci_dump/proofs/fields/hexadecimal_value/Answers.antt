use Rattle.std.proofs.Common.{arith, get_or}
use Rattle.sci_dump.proofs.Hexadecimal.{front_small, front_more, digit_at, digit_small}
use Rattle.sci_dump.proofs.fields.hexadecimal_value.Goals as goal

pub overflow_mul-value : goal.overflow_mul-value
overflow_mul-value c = omega (arith, front_small c.args.digits.now c.loop-digit.digit-index c.requires.digits c.requires.sixteen c.loop-digit-test.true)

pub overflow_add-value : goal.overflow_add-value
overflow_add-value c =
    let s = front_small c.args.digits.now c.loop-digit.digit-index c.requires.digits c.requires.sixteen c.loop-digit-test.true in
    let d = digit_small (get_or c.args.digits.now c.loop-digit.digit-index 0) (digit_at c.args.digits.now c.loop-digit.digit-index c.requires.digits c.loop-digit-test.true) in
    omega (arith, s, d, c.from.ensures, c.hexadecimal_digit.ensures)

pub loop-digit-preserved : goal.loop-digit-preserved
loop-digit-preserved c = let e = front_more c.args.digits.now c.loop-digit.digit-index c.loop-digit-test.true in omega (arith, e, c.from.ensures, c.hexadecimal_digit.ensures)

pub hexadecimal_digit-requires : goal.hexadecimal_digit-requires
hexadecimal_digit-requires c = digit_at c.args.digits.now c.loop-digit.digit-index c.requires.digits c.loop-digit-test.true
