use Rattle.std.proofs.Common.{◌≡◌, length}
use Rattle.sci_shared_tests.proofs.cache.growths.waits_each.Given as goal

abbrev pub invariant-loop-call : goal.invariant-loop-call
invariant-loop-call g l = record {
  node : l.node.id ≡ l.bank.node;
  named : l.node.lines ≡ 1;
  lines : length l.bank.wholes.items ≡ 1;
}
