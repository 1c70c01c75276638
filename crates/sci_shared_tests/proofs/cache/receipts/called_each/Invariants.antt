use Rattle.std.proofs.Common.{◌≡◌, length}
use Rattle.sci_shared_tests.proofs.cache.receipts.called_each.Given as goal

abbrev pub invariant-loop-request : goal.invariant-loop-request
invariant-loop-request g l = record {
  node : l.node.id ≡ l.bank.node;
  lines : length l.bank.wholes.items ≡ l.node.lines;
}
