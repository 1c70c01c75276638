use Rattle.std.proofs.Common.{◌≡◌, ◌-◌, length}
use Rattle.sci_histories.specs.Reading.{receipts_at}
use Rattle.sci_histories.proofs.Looping.{with}
use Rattle.sci_histories.proofs.reader.read_receipts.Given as goal

-- the receipts so far and those of what is left are those of all
abbrev pub invariant-loop : goal.invariant-loop
invariant-loop l = with l.receipts.items (receipts_at (length l.text - l.counter) l.node l.at l.rest) ≡ receipts_at (length l.text) l.node l.number l.text
