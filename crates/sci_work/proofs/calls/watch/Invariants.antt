use Rattle.sci_work.specs.Made.{HasWatched}
use Rattle.sci_work.proofs.calls.watch.Given as goal

abbrev pub invariant-loop : goal.invariant-loop
invariant-loop g l = HasWatched g.B.Bank.way g.B.Bank.keep g.B.Bank.at_step g.B.Bank.gives g.B.Bank.readies g.B.Bank.receipts l.fn.bank l.bank
