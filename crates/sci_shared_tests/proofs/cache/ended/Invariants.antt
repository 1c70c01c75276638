use Rattle.std.proofs.Common.{◌≡◌, length}
use Rattle.sci_shared_tests.proofs.cache.ended.Given as goal

abbrev pub invariant-loop-turns : goal.invariant-loop-turns
invariant-loop-turns l = record {
  node : l.bank.node ≡ l.node.id;
  lines : length l.bank.wholes.items ≡ l.node.lines;
  same : l.node.lines ≡ l.fn.node.lines;
}
