use Rattle.sci_work.specs.Made.{IsStillBankOf, Made}
use Rattle.sci_work.specs.Ring.{item_writes}
use Rattle.sci_work.proofs.rings.producing.produced.Given as goal

abbrev pub invariant-loop-i : goal.invariant-loop-i
invariant-loop-i g l =
    record {
      still : IsStillBankOf l.fn.node.keeps (item_writes l.source l.lines l.i) g.B.Bank.way g.B.Bank.keep g.B.Bank.at_step g.B.Bank.gives g.B.Bank.readies g.B.Bank.receipts l.fn.bank l.node l.bank;
      made : Made g.B.Bank.gives g.B.Bank.readies g.B.Bank.at_step (item_writes l.source l.lines l.i) l.fn.node l.fn.bank l.node l.bank;
    }
