use Rattle.std.specs.Prelude.{All}
use Rattle.sci_shared_tests.proofs.lines.threads.work.Given as goal

abbrev pub invariant-loop-step : goal.invariant-loop-step
invariant-loop-step g l = All (λ s. g.L.SharedLine.is_seat l.line s) l.seats
