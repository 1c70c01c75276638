use Rattle.std.specs.Prelude.{All}
use Rattle.sci_shared_tests.proofs.lines.stopping.share.Given as goal

abbrev pub invariant-loop-caller : goal.invariant-loop-caller
invariant-loop-caller g l = All (λ c. g.L.SharedLine.is_seat l.line c.seat) l.callers
