use Rattle.std.proofs.Common.{◌≡◌, length}
use Rattle.sci_shared_tests.proofs.cache.waiting.refuses_each.Given as goal

abbrev pub invariant-loop-request : goal.invariant-loop-request
invariant-loop-request g l = record {
  node : l.node.id ≡ l.bank.node;
  named : l.node.lines ≡ 1;
  lines : length l.bank.wholes.items ≡ 1;
}
