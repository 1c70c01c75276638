use Rattle.std.proofs.Common.{◌≡◌}
use Rattle.sci_shared_tests.proofs.cache.the_table_goes_by_the_last_use.Given as goal

abbrev pub invariant-loop-want : goal.invariant-loop-want
invariant-loop-want g l = l.node.lines ≡ 3
