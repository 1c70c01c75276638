use Rattle.std.proofs.Common.{arith}
use Rattle.sci_serve.proofs.Passing.{most_one, stands_next}
use Rattle.sci_serve.proofs.kinds.Gathered.pass.Goals as goal

pub loop-at-preserved : goal.loop-at-preserved
loop-at-preserved c = record {
  passed = omega (arith, c.loop-at.invariant.passed);
  fewer = omega (arith, c.loop-at.invariant.fewer, most_one _ _ c.from.ensures);
  stands = λ silent h. stands_next c.loop-at.self.place c.in-Some.place silent c.args.bytes.now c.loop-at.at c.loop-at.self.lines _ c.loop-at-test.true c.from.ensures c.in-Some.ensures (c.loop-at.invariant.stands silent h);
  silent = c.loop-at.invariant.silent;
  word = c.loop-at.invariant.word;
}
