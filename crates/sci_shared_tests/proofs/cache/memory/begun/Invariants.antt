use Rattle.std.proofs.Common.{◌≡◌, length}
use Rattle.sci_shared_tests.proofs.cache.memory.begun.Given as goal

abbrev pub invariant-loop-request : goal.invariant-loop-request
invariant-loop-request l = record {
  node : l.node.id ≡ l.bank.node;
  named : l.node.lines ≡ 3;
  lines : length l.bank.wholes.items ≡ 3;
}
