use Rattle.std.proofs.Common.{arith}
use Rattle.sci_dump.proofs.Deciding.{not_all_exact, exact_more}
use Rattle.sci_dump.proofs.checking.verdict_of.Goals as goal

pub returns-in-Some-clause-exact : goal.returns-in-Some-clause-exact
returns-in-Some-clause-exact c =
    ((λ e. absurd (grind (arith, e))), (λ all. absurd (not_all_exact c.args.lines.now c.loop-number.number c.index-lines-number.result c.in-Some.rule c.loop-number-test.true c.index-lines-number.is c.in-Some.ensures all)))

pub loop-number-preserved : goal.loop-number-preserved
loop-number-preserved c = exact_more c.args.lines.now c.loop-number.number c.index-lines-number.result c.loop-number-test.true c.index-lines-number.is c.in_default.ensures c.loop-number.invariant
