use Rattle.std.proofs.Common.{arith}
use Rattle.sci_histories.proofs.Legality.{not_all_legal}
use Rattle.sci_histories.proofs.checking.verdict_of.Goals as goal

pub returns-in-Some-clause-exact : goal.returns-in-Some-clause-exact
returns-in-Some-clause-exact c =
    let breaks = rw c.in-Some.is at c.in_ok-rule.ensures in
    ((λ e. absurd (grind (arith, e))), (λ all. absurd (not_all_legal c.args.lines.now c.loop-number.number c.index-lines-number.result c.in-Some.rule c.loop-number-test.true c.index-lines-number.is breaks all)))
