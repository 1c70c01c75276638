use Rattle.std.proofs.Common.{◌≡◌, ◌≢◌, ℕ}
use Rattle.sci_ops.specs.Room.{HasNeed}
use Rattle.sci_ops.specs.declared.goals.Goal.{Goal}
use Rattle.sci_cache.proofs.Keeping.{IsAtWork}
use Rattle.sci_cache.proofs.Unopened.{Leaves}
use Rattle.sci_cache.proofs.waiting.leave.Given as goal

abbrev pub invariant-loop : goal.invariant-loop
invariant-loop g l =
    record {
      can : (goal.iterator-loop g).can_next l.iterator';
      finite : (goal.iterator-loop g).is_finite l.iterator';
      runs : Leaves g.B.Bank.gives g.B.Bank.at_step (g.B.Bank.way l.fn.bank).node l.fn.victim l.fn.bank l.bank;
      others : (m : ℕ) → m ≢ l.fn.victim → g.B.Bank.at_step l.bank m ≡ g.B.Bank.at_step l.fn.bank m;
      kept : HasNeed Goal.Evict (g.B.Bank.at_step l.fn.bank l.fn.victim) (g.B.Bank.receipts l.fn.bank l.fn.victim) → IsAtWork g.B.Bank.gives g.B.Bank.readies g.B.Bank.at_step g.B.Bank.receipts Goal.Evict l.fn.victim l.fn.bank l.bank;
      receipts : (m : ℕ) → m ≢ l.fn.victim → g.B.Bank.receipts l.bank m ≡ g.B.Bank.receipts l.fn.bank m;
      way : g.B.Bank.way l.bank ≡ g.B.Bank.way l.fn.bank;
      nodes : (m : ℕ) → g.B.Bank.nodes_on l.bank m ≡ g.B.Bank.nodes_on l.fn.bank m;
      fact : g.B.Bank.keep l.bank ≡ g.B.Bank.keep l.fn.bank;
    }
