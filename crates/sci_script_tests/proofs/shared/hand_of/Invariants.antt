use Rattle.std.proofs.Common.{◌≡◌, length, vec_items}
use Rattle.sci_script.specs.Dealt.{AreDealt, ArePiled}
use Rattle.sci_script_tests.proofs.shared.hand_of.Given as goal

abbrev pub invariant-loop-place : goal.invariant-loop-place
invariant-loop-place g l = record {
  count : length l.hand.items ≡ l.place;
  same : length l.piles.items ≡ length l.initial.piles.items;
  hand : AreDealt g.L.SharedLine.is_seat l.lines l.hand.items;
  piles : ArePiled g.L.SharedLine.is_seat vec_items l.lines l.piles.items;
}
