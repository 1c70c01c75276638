use Rattle.std.proofs.Common.{◌≡◌, ℕ, ◌+◌, ◌<◌, ◌≤◌, get_or, vec_items, vec_capacity, vec_len}
use Rattle.std.specs.Vec.Iter.{into_iter_items, into_iter_len}
use Rattle.sci_work.specs.declared.recording.Recording.{Recording}
use Rattle.sci_work.specs.Hands.{AtEach, HasWrittenNothing, IsHandOf}
use Rattle.sci_work.proofs.starting.start_each.Given as goal

abbrev pub invariant-loop-hand : goal.invariant-loop-hand
invariant-loop-hand g l = record {
  rest : l.number + into_iter_len l.hand-iterator ≡ vec_len l.fn.hands;
  ready : AtEach (λ k hand. IsHandOf Recording.All l.lines (k + l.number) (vec_items hand)) (into_iter_items l.hand-iterator);
  begin : l.fn.recording ≡ Recording.All → AtEach (λ k hand. HasWrittenNothing (vec_items hand)) (into_iter_items l.hand-iterator);
  len : vec_len l.handles ≡ l.number;
  room : vec_len l.fn.hands ≤ vec_capacity l.handles;
  promised : (k : ℕ) (d : _) → k < vec_len l.handles → ((get_or (vec_items l.handles) k d).promise.lines.now ≡ l.lines) × ((get_or (vec_items l.handles) k d).promise.program ≡ l.fn.program) × ((get_or (vec_items l.handles) k d).promise.number ≡ k) × ((get_or (vec_items l.handles) k d).promise.recording ≡ l.fn.recording);
}
