use Rattle.std.proofs.Common.{◌≡◌, ◌+◌, ◌≤◌, ◌++◌, ◌∷◌, [], length, vec_items, vec_len, vec_capacity}
use Rattle.std.specs.Vec.Iter.{into_iter_items, into_iter_len}
use mathlib.Core.Option.{some}
use lib.ListN.{get_elem?}
use Rattle.sci_work.specs.Hands.{AreIdle, AtEach, IsFewer, IsHandOf, IsSeatIn}
use Rattle.sci_work.proofs.lines.last_seats.Given as goal

abbrev pub invariant-loop-one : goal.invariant-loop-one
invariant-loop-one g l = record {
  rest : vec_len l.all + into_iter_len l.one-iterator ≡ vec_len l.fn.hands;
  same : vec_len l.seats ≡ vec_len l.all;
  room : vec_len l.fn.hands ≤ vec_capacity l.all;
  seat_room : vec_len l.fn.hands ≤ vec_capacity l.seats;
  left : AtEach (λ k hand. IsHandOf l.fn.recording (l.lines ++ l.line ∷ []) (k + vec_len l.all) (vec_items hand)) (into_iter_items l.one-iterator);
  hands : AtEach (λ k hand. IsHandOf l.fn.recording l.lines k (vec_items hand)) (vec_items l.all);
  seats : AreIdle l.fn.recording l.line (vec_items l.seats);
  at : AtEach (λ k hand. get_elem? (vec_items l.fn.hands) (k + vec_len l.all) ≡ some hand) (into_iter_items l.one-iterator);
  fewer : AtEach (IsFewer (vec_items l.fn.hands)) (vec_items l.all);
  last : AtEach (IsSeatIn (vec_items l.fn.hands) (length l.lines)) (vec_items l.seats);
}
