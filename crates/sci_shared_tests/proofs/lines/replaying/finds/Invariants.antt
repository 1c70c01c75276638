use Rattle.std.proofs.Common.{◌≡◌}
use Rattle.sci_shared_tests.proofs.lines.replaying.finds.Given as goal

abbrev pub invariant-loop-number : goal.invariant-loop-number
invariant-loop-number g l = record {
  same_line : l.port.line ≡ l.initial.port.line;
  same_reference : l.port.seat.ghost_name ≡ l.initial.port.seat.ghost_name;
}
