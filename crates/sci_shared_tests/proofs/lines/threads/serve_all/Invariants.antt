use Rattle.std.specs.Prelude.{All}
use Rattle.sci_shared_tests.proofs.lines.threads.serve_all.Given as goal

abbrev pub invariant-loop-seat : goal.invariant-loop-seat
invariant-loop-seat g l = All (λ s. g.L.SharedLine.is_seat l.line s) l.seats
