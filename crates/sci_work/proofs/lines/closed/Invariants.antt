use Rattle.std.proofs.Common.{◌≡◌, ℕ, ◌+◌, ◌≤◌, [], reverse, vec_items, vec_len, vec_capacity}
use mathlib.Core.Option.{some}
use lib.ListN.{get_elem?}
use Rattle.sci_work.specs.declared.recording.Recording.{Recording}
use Rattle.sci_work.specs.Ended.{IsClosedOf, IsHistoryOn, lists_in}
use Rattle.sci_work.specs.Hands.{AtEach, IsFewer, IsHandOf, IsListOf}
use Rattle.sci_work.proofs.lines.closed.Given as goal

abbrev pub invariant-loop : goal.invariant-loop
invariant-loop g l = record {
  rest : vec_len l.rest + l.counter ≡ vec_len l.fn.lines;
  len : vec_len l.all ≡ l.counter;
  room : vec_len l.fn.lines ≤ vec_capacity l.all;
  same : (k : ℕ) (x : _) → get_elem? (vec_items l.rest) k ≡ some x → get_elem? (vec_items l.fn.lines) k ≡ some x;
  hands : AtEach (λ k hand. IsHandOf l.fn.recording (vec_items l.rest) k (vec_items hand)) (vec_items l.hands);
  lists : l.fn.recording ≡ Recording.All → vec_len l.receipts ≡ l.counter;
  lists_room : l.fn.recording ≡ Recording.All → vec_len l.fn.lines ≤ vec_capacity l.receipts;
  none : l.fn.recording ≡ Recording.Nothing → vec_items l.receipts ≡ [];
  from : AtEach (IsFewer (vec_items l.fn.hands)) (vec_items l.hands);
  own : l.fn.recording ≡ Recording.All → (k : ℕ) (v : _) → get_elem? (reverse (vec_items l.receipts)) k ≡ some v → AtEach (λ node list. IsListOf (vec_items l.fn.hands) node (k + vec_len l.rest) list) (lists_in v);
  histories : l.fn.recording ≡ Recording.All → (k : ℕ) (x : _) (c : _) (v : _) → get_elem? (vec_items l.fn.lines) (k + vec_len l.rest) ≡ some x → get_elem? (reverse (vec_items l.all)) k ≡ some c → get_elem? (reverse (vec_items l.receipts)) k ≡ some v
      → IsHistoryOn g.K.Keeps.fits x c (lists_in v);
  each : (k : ℕ) (x : _) (c : _) → get_elem? (vec_items l.fn.lines) (k + vec_len l.rest) ≡ some x → get_elem? (reverse (vec_items l.all)) k ≡ some c → IsClosedOf g.K.Keeps.fits x c;
}
