use Rattle.std.proofs.Common.{vec_items}
use Rattle.sci_script.specs.Dealt.{ArePiled}
use Rattle.sci_script_tests.proofs.banks.banks_of.Given as goal

abbrev pub invariant-loop : goal.invariant-loop
invariant-loop g l = ArePiled g.L.SharedLine.is_seat vec_items l.lines l.piles.items
