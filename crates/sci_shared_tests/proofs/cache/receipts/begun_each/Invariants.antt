use Rattle.std.proofs.Common.{◌≡◌}
use Rattle.sci_shared_tests.proofs.cache.receipts.begun_each.Given as goal

abbrev pub invariant-loop-request : goal.invariant-loop-request
invariant-loop-request g l = l.node.lines ≡ 3
