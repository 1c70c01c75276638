use Rattle.std.proofs.Common.{◌≡◌, length}
use Rattle.sci_shared_tests.proofs.cache.receipts.calls_need_room_on_their_line_and_the_victims.Given as goal

abbrev pub invariant-loop-request : goal.invariant-loop-request
invariant-loop-request g l = record {
  node : l.node.id ≡ l.bank.node;
  named : l.node.lines ≡ 3;
  lines : length l.bank.wholes.items ≡ 3;
}
