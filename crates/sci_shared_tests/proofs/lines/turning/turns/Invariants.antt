use Rattle.std.specs.Prelude.{All}
use Rattle.sci_shared_tests.proofs.lines.turning.turns.Given as goal

abbrev pub invariant-loop : goal.invariant-loop
invariant-loop g l = All (λ s. g.L.SharedLine.is_seat l.line s) l.seats
