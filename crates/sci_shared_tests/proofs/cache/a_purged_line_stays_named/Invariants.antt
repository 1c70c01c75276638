use Rattle.std.proofs.Common.{◌≡◌}
use Rattle.sci_shared_tests.proofs.cache.a_purged_line_stays_named.Given as goal

abbrev pub invariant-loop-purge : goal.invariant-loop-purge
invariant-loop-purge g l = record {
  reader : l.reader.lines ≡ 3;
  writer : l.writer.lines ≡ 3;
}
