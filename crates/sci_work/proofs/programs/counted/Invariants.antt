use Rattle.std.proofs.Common.{◌≡◌, ℕ, true, List}
use Rattle.sci_work.specs.Adding.{HasAdded}
use Rattle.sci_work.specs.Workers.{HasWorked}
use Rattle.sci_work.proofs.programs.counted.Given as goal

abbrev pub invariant-loop : goal.invariant-loop
invariant-loop g l = record {
  worked : (ws : List (ℕ × List ℕ)) × HasWorked l.fn.node.keeps ws g.B.Bank.way g.B.Bank.keep g.B.Bank.at_step g.B.Bank.gives g.B.Bank.readies g.B.Bank.receipts l.fn.bank l.node l.bank;
  added : l.fn.node.keeps ≡ true → HasAdded l.counter (g.B.Bank.receipts l.fn.bank 0).list (g.B.Bank.receipts l.bank 0).list;
}
