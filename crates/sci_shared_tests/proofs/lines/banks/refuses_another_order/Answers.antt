use Rattle.std.proofs.Common.{◌≡◌, refl, arith}
use Rattle.sci_shared_tests.proofs.lines.banks.refuses_another_order.Goals as goal

-- the first seat is one of line 1
pub made-requires-clause-seats : goal.made-requires-clause-seats
made-requires-clause-seats g c = λ per.
    let other = c.in_ok-lines.other in
    let first : (g.L.SharedLine.seating other).terms.number ≡ 0 = (per.each 0 other refl).1 in
    let second : (g.L.SharedLine.seating other).terms.number ≡ 1 = c.in_ok-lines.ensures.number in
    absurd (omega arith)
