use Rattle.std.proofs.Common.{rules, ap, arith}
use Rattle.sci_work.proofs.Items.{is_ring}
use Rattle.sci_work_tests.proofs.locked.items_pass_in_order.Goals as goal

pub worked-requires-clause-suits : goal.worked-requires-clause-suits
worked-requires-clause-suits g c κs = λ number low.
    (is_ring c.new-fact.result.source.now _ c.new-fact.result.lines 2 (ap (λ z. z.now) c.new-fact.ensures.source) c.new-fact.ensures.lines, (search rules, omega arith, omega arith), omega arith)
