use Rattle.std.proofs.Common.{◌≡◌, length, vec_items}
use Rattle.sci_port.specs.SeatBanks.{IsLine}
use Rattle.sci_script.specs.Dealt.{ArePiled, AreShared}
use Rattle.sci_script_tests.proofs.shared.opened.Given as goal

abbrev pub invariant-loop-number : goal.invariant-loop-number
invariant-loop-number g l = record {
  count : length l.lines.items ≡ l.number;
  even : length l.piles.items ≡ l.number;
  lines : AreShared (λ l nodes number. IsLine nodes (record {}) number (g.L.SharedLine.terms l)) l.script.size.nodes l.lines.items;
  piles : ArePiled g.L.SharedLine.is_seat vec_items l.lines.items l.piles.items;
}
