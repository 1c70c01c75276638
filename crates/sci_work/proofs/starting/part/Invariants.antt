use Rattle.std.proofs.Common.{◌≡◌, ◌+◌, ◌≤◌, IsOk, vec_items, vec_len, vec_capacity}
use Rattle.std.specs.Vec.Iter.{into_iter_items, into_iter_len}
use Rattle.sci_work.specs.declared.recording.Recording.{Recording}
use Rattle.sci_work.specs.Hands.{AtEach, IsHandOf}
use Rattle.sci_work.specs.Programs.{IsShareOf}
use Rattle.sci_work.specs.Starts.{HasWrittenAll, IsPartDone}
use Rattle.sci_work.proofs.starting.part.Given as goal

abbrev pub invariant-loop-one : goal.invariant-loop-one
invariant-loop-one g l = record {
  rest : vec_len l.hands + into_iter_len l.one-iterator ≡ vec_len l.fn.done;
  same : vec_len l.shares ≡ vec_len l.hands;
  room : vec_len l.fn.done ≤ vec_capacity l.hands;
  share_room : vec_len l.fn.done ≤ vec_capacity l.shares;
  left : AtEach (λ k one. IsPartDone l.fn.recording l.lines l.fn.program (k + vec_len l.hands) (vec_items one.hand) one.share) (into_iter_items l.one-iterator);
  ended : AtEach (λ k one. IsOk one.share) (into_iter_items l.one-iterator);
  hands : AtEach (λ k hand. IsHandOf l.fn.recording l.lines k (vec_items hand)) (vec_items l.hands);
  end : l.fn.recording ≡ Recording.All → AtEach (λ k hand. HasWrittenAll l.fn.program k (vec_items hand)) (vec_items l.hands);
  shares : AtEach (λ k share. IsShareOf l.fn.program k (vec_items share)) (vec_items l.shares);
}
