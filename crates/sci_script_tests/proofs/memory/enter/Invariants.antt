use Rattle.std.proofs.Common.{◌≡◌}
use Rattle.sci_script_tests.proofs.memory.enter.Given as goal

abbrev pub invariant-loop-number : goal.invariant-loop-number
invariant-loop-number g l = g.D.Desk.size l.desk ≡ l.script.size
