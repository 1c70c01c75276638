use Rattle.sci_shared_tests.proofs.lines.carry_out.Given as goal

abbrev pub invariant-loop : goal.invariant-loop
invariant-loop g l = g.L.SharedLine.is_seat l.line l.seat
