use Rattle.std.proofs.Common.{◌≡◌, ◌≤◌, length, take}
use Rattle.std.specs.Prelude.{vec_capacity}
use Rattle.sci_core.proofs.closing.copied_into.Given as goal

abbrev pub invariant-loop-item : goal.invariant-loop-item
invariant-loop-item g l = record {
  room : length l.items ≤ vec_capacity l.room;
  items : l.room.items ≡ take l.item-index l.items;
}
