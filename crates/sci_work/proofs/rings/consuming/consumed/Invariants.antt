use Rattle.std.proofs.Common.{◌≡◌, ℕ, ◌≤◌, List, length, take, vec_items}
use Rattle.sci_work.specs.Made.{IsStillBankOf, Made}
use Rattle.sci_work.specs.Ring.{IsRing, count_writes}
use Rattle.sci_work.proofs.rings.consuming.consumed.Given as goal

abbrev pub invariant-loop-i : goal.invariant-loop-i
invariant-loop-i g l =
    record {
      items : (source : List ℕ) → IsRing (g.B.Keep.Keeps.fits (g.B.Bank.keep l.fn.bank)) source l.lines → l.n ≤ length source → vec_items l.items ≡ take l.i source;
      still : IsStillBankOf l.fn.node.keeps (count_writes l.lines l.i) g.B.Bank.way g.B.Bank.keep g.B.Bank.at_step g.B.Bank.gives g.B.Bank.readies g.B.Bank.receipts l.fn.bank l.node l.bank;
      made : Made g.B.Bank.gives g.B.Bank.readies g.B.Bank.at_step (count_writes l.lines l.i) l.fn.node l.fn.bank l.node l.bank;
    }
