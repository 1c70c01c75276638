use Rattle.std.proofs.Common.{◌≡◌}
use Rattle.sci_script_tests.proofs.memory.turns.Given as goal

abbrev pub invariant-loop : goal.invariant-loop
invariant-loop g l = g.D.Desk.size l.desk ≡ l.script.size
