use Rattle.std.specs.Prelude.{All}
use Rattle.sci_shared_tests.proofs.lines.replaying.replay_all.Given as goal

abbrev pub invariant-loop-place : goal.invariant-loop-place
invariant-loop-place g l = All (λ s. g.L.SharedLine.is_seat l.line s) l.seats
