use Rattle.std.proofs.Common.{◌≡◌, ℕ, ◌+◌, ◌<◌, length, slice_index}
use Rattle.sci_work.proofs.stencils.tiles.opening.Given as goal

abbrev pub invariant-loop-j : goal.invariant-loop-j
invariant-loop-j l = record {
  size : length l.words ≡ 8;
  number : slice_index l.words 0 ≡ 1;
  done : (i : ℕ) → i < l.j → slice_index l.words (i + 1) ≡ slice_index l.cells (l.at + i);
}
