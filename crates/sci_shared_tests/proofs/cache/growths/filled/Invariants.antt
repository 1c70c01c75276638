use Rattle.std.proofs.Common.{◌≡◌}
use Rattle.sci_shared_tests.proofs.cache.growths.filled.Given as goal

abbrev pub invariant-loop : goal.invariant-loop
invariant-loop g l = l.node.lines ≡ 3
