use Rattle.std.proofs.Common.{◌≡◌, ◌≤◌, [], vec_items, vec_len, vec_capacity}
use Rattle.sci_work.specs.Hands.{AtEach, IsNewHand}
use Rattle.sci_work.proofs.lines.empty_hands.Given as goal

abbrev pub invariant-loop : goal.invariant-loop
invariant-loop g l = record {
  len : vec_len l.hands ≡ l.counter;
  room : l.nodes ≤ vec_capacity l.hands;
  each : AtEach (λ k hand. IsNewHand [] k (vec_items hand)) (vec_items l.hands);
}
