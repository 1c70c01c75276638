use Rattle.std.proofs.Common.{◌≡◌, ◌≤◌, vec_items, vec_len, vec_capacity}
use Rattle.sci_core.specs.State.{blank}
use Rattle.sci_fine.specs.Banks.{IsLine}
use Rattle.sci_work.specs.Hands.{AtEach, IsNewHand}
use Rattle.sci_work.proofs.lines.opened.Given as goal

abbrev pub invariant-loop-number : goal.invariant-loop-number
invariant-loop-number g l = record {
  count : vec_len l.lines ≡ l.number;
  room : l.count ≤ vec_capacity l.lines;
  lines : AtEach (IsLine l.nodes l.keep) (vec_items l.lines);
  zeros : AtEach (λ k x. x.terms.opening ≡ blank) (vec_items l.lines);
  len : vec_len l.hands ≡ l.nodes;
  hands : AtEach (λ k hand. IsNewHand (vec_items l.lines) k (vec_items hand)) (vec_items l.hands);
}
