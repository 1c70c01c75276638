use Rattle.std.proofs.Common.{◌≡◌}
use Rattle.sci_shared_tests.proofs.cache.memory.rounds.Given as goal

abbrev pub invariant-loop : goal.invariant-loop
invariant-loop l = record {
  one : l.one.lines ≡ 3;
  other : l.other.lines ≡ 3;
}

abbrev pub invariant-loop-request : goal.invariant-loop-request
invariant-loop-request l = record {
  one : l.one.lines ≡ 3;
  other : l.other.lines ≡ 3;
}
