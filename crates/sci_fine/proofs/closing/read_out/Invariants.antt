use Rattle.std.proofs.Common.{◌≡◌, ℕ, ◌+◌, ◌<◌, ◌≤◌, false, get_or, vec_len}
use Rattle.std.specs.Prelude.{vec_capacity}
use Rattle.std.specs.Slots.{slots_items, slots_filled, slots_len}
use Rattle.std.specs.Slots.Ownership.{Filled}
use Rattle.sci_fine.specs.Ends.{HasRead}
use Rattle.sci_fine.proofs.closing.read_out.Given as goal

abbrev pub invariant-loop-node : goal.invariant-loop-node
invariant-loop-node g l = record {
  words : l.table.words ≡ l.initial.table.words;
  slots : slots_items l.table.slots ≡ slots_items l.initial.table.slots;
  count : slots_len l.table.slots ≡ l.fn.terms.nodes + 1;
  full : Filled (slots_filled l.table.slots) (l.node + 1) (l.fn.terms.nodes + 1);
  taken : (k : ℕ) → k < l.node + 1 → get_or (slots_filled l.table.slots) k false ≡ false;
  tags : vec_len l.tags ≡ l.node;
  lines : vec_len l.lines ≡ l.node;
  tag_room : l.fn.terms.nodes ≤ vec_capacity l.tags;
  line_room : l.fn.terms.nodes ≤ vec_capacity l.lines;
  read : HasRead (slots_items l.initial.table.words) (slots_items l.initial.table.slots) l.node l.tags.items l.lines.items;
}
