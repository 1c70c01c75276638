use Rattle.std.proofs.Common.{◌≡◌, ℕ, ◌<◌, get_or}
use Rattle.sci_core.specs.declared.pending.Pending.{Pending}
use Rattle.sci_shared_tests.proofs.lines.are_idle.Given as goal

abbrev pub invariant-loop-seat : goal.invariant-loop-seat
invariant-loop-seat g l = (k : ℕ) (d : _) → k < l.seat-index → (g.L.SharedLine.seating (get_or l.seats k d)).pending ≡ Pending.Idle
