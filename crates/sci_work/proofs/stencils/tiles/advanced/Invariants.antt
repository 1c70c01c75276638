use Rattle.std.proofs.Common.{◌≡◌, ℕ, ◌+◌, ◌%◌, ◌^◌, ◌<◌, length, slice_index}
use Rattle.sci_work.specs.Stencil.{before, behind}
use Rattle.sci_work.proofs.stencils.tiles.advanced.Given as goal

abbrev pub invariant-loop-j : goal.invariant-loop-j
invariant-loop-j l = record {
  size : length l.next ≡ 8;
  number : slice_index l.next 0 ≡ slice_index l.own 0 + 1;
  done : (i : ℕ) → i < l.j → slice_index l.next (i + 1) ≡ (before l.left l.own i + slice_index l.own (i + 1) + behind l.right l.own i) % 2 ^ 64;
}
