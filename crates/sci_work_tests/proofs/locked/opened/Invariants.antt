use Rattle.std.proofs.Common.{◌≡◌, length, vec_items}
use Rattle.sci_coarse.specs.Banks.{IsLine}
use Rattle.sci_work.specs.Hands.{AtEach}
use Rattle.sci_work.specs.Locked.{AreIdleSeats}
use Rattle.sci_work_tests.proofs.locked.opened.Given as goal

abbrev pub invariant-loop-number : goal.invariant-loop-number
invariant-loop-number g l = record {
  count : length (vec_items l.lines) ≡ l.number;
  lines : AtEach (IsLine 2 l.keep) (vec_items l.lines);
  first : AreIdleSeats (vec_items l.lines) (vec_items l.first);
  second : AreIdleSeats (vec_items l.lines) (vec_items l.second);
}
