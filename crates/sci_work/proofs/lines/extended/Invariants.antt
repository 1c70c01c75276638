use Rattle.std.proofs.Common.{◌≡◌, ◌+◌, ◌≤◌, ◌++◌, ◌∷◌, [], vec_items, vec_len, vec_capacity}
use Rattle.std.specs.Vec.Iter.{into_iter_items, into_iter_len}
use Rattle.sci_work.specs.Hands.{AtEach, IsNewHand, IsNewSeat}
use Rattle.sci_work.proofs.lines.extended.Given as goal

abbrev pub invariant-loop-one : goal.invariant-loop-one
invariant-loop-one g l = record {
  rest : vec_len l.all + into_iter_len l.one-iterator ≡ vec_len l.fn.hands;
  same : into_iter_len l.rest ≡ into_iter_len l.one-iterator;
  room : vec_len l.fn.hands ≤ vec_capacity l.all;
  hands : AtEach (λ k hand. IsNewHand l.lines (k + vec_len l.all) (vec_items hand)) (into_iter_items l.one-iterator);
  seats : AtEach (λ k s. IsNewSeat (k + vec_len l.all) l.line s) (into_iter_items l.rest);
  each : AtEach (λ k hand. IsNewHand (l.lines ++ l.line ∷ []) k (vec_items hand)) (vec_items l.all);
}
