use Rattle.std.proofs.Common.{[]}
use Rattle.sci_work.specs.Made.{IsStillBankOf, Made}
use Rattle.sci_work.proofs.calls.load_until.Given as goal

abbrev pub invariant-loop : goal.invariant-loop
invariant-loop g l =
    record {
      can : (goal.iterator-loop g).can_next l.iterator';
      finite : (goal.iterator-loop g).is_finite l.iterator';
      still : IsStillBankOf l.fn.node.keeps [] g.B.Bank.way g.B.Bank.keep g.B.Bank.at_step g.B.Bank.gives g.B.Bank.readies g.B.Bank.receipts l.fn.bank l.node l.bank;
      made : Made g.B.Bank.gives g.B.Bank.readies g.B.Bank.at_step [] l.fn.node l.fn.bank l.node l.bank;
    }
