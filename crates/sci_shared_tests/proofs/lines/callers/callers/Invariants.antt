use Rattle.std.proofs.Common.{vec_items}
use Rattle.std.specs.Prelude.{All}
use Rattle.std.specs.Vec.Iter.{into_iter_items}
use Rattle.sci_shared_tests.proofs.lines.callers.callers.Given as goal

abbrev pub invariant-loop-seat : goal.invariant-loop-seat
invariant-loop-seat g l = record {
  left : All (λ s. g.L.SharedLine.is_seat l.line s) (into_iter_items l.seat-iterator);
  made : All (λ c. g.L.SharedLine.is_seat l.line c.seat) (vec_items l.callers);
}
