use Rattle.std.proofs.Common.{◌≡◌, ◌+◌, ◌∷◌, ◌++◌, [], vec_items, vec_len}
use Rattle.std.specs.Vec.Iter.{into_iter_items}
use Rattle.sci_work.specs.declared.recording.Recording.{Recording}
use Rattle.sci_work.specs.Hands.{AreIdle, AtEach, IsHandOf}
use Rattle.sci_work.proofs.Dealing.{each_alone, held}
use Rattle.sci_work.proofs.seating.gathered.Given as goal

abbrev pub invariant-loop-hand : goal.invariant-loop-hand
invariant-loop-hand g l = record {
  left : AtEach (λ k hand. IsHandOf Recording.All (l.line ∷ []) (k + vec_len l.seats) (vec_items hand)) (into_iter_items l.hand-iterator);
  all : AreIdle Recording.All l.line (vec_items l.seats);
  held : held (vec_items l.fn.hands) ≡ each_alone (vec_items l.seats) ++ held (into_iter_items l.hand-iterator);
}
