use Rattle.std.proofs.Common.{◌≡◌, ◌+◌, ◌∷◌, ◌++◌, [], vec_items, vec_len}
use Rattle.std.specs.Vec.Iter.{into_iter_items, into_iter_len}
use Rattle.sci_work.specs.declared.recording.Recording.{Recording}
use Rattle.sci_work.specs.Hands.{AtEach, IsHandOf, IsIdleSeat}
use Rattle.sci_work.proofs.Dealing.{each_alone, held}
use Rattle.sci_work.proofs.seating.dealt.Given as goal

abbrev pub invariant-loop-seat : goal.invariant-loop-seat
invariant-loop-seat g l = record {
  rest : vec_len l.hands + into_iter_len l.seat-iterator ≡ vec_len l.fn.seats;
  left : AtEach (λ k s. IsIdleSeat Recording.All (k + vec_len l.hands) l.line s) (into_iter_items l.seat-iterator);
  each : AtEach (λ k hand. IsHandOf Recording.All (l.line ∷ []) k (vec_items hand)) (vec_items l.hands);
  hold : held (vec_items l.hands) ++ each_alone (into_iter_items l.seat-iterator) ≡ each_alone (vec_items l.fn.seats);
}
