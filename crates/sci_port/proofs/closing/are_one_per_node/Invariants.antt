use Rattle.std.proofs.Common.{◌≡◌, ℕ, ◌<◌}
use mathlib.Core.Option.{some}
use lib.ListN.{get_elem?}
use Rattle.sci_port.specs.SeatBanks.{SitsOn}
use Rattle.sci_port.proofs.closing.are_one_per_node.Given as goal

abbrev pub invariant-loop-place : goal.invariant-loop-place
invariant-loop-place g l = (k : ℕ) (s : _) → k < l.place → get_elem? l.seats k ≡ some s → SitsOn k (g.L.SharedLine.terms l.line).number (g.L.SharedLine.seating s)
