use Rattle.std.proofs.Common.{arith}
use Rattle.sci_dump.proofs.Digits.{front_more}
use Rattle.sci_dump.proofs.fields.capped_value.Goals as goal

pub loop-digit-preserved : goal.loop-digit-preserved
loop-digit-preserved c = let e = front_more c.args.digits.now c.loop-digit.digit-index c.requires c.loop-digit-test.true in omega (arith, e)
