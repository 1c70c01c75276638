use Rattle.std.proofs.Common.{◌≡◌, ◌≤◌, ◌+◌, length}
use Rattle.std.specs.Str.Lines.{lines}
use Rattle.sci_script.specs.Format.{entries_from}
use Rattle.sci_script.proofs.reader.first_entry.Given as goal

abbrev pub invariant-loop-rest : goal.invariant-loop-rest
invariant-loop-rest l =
    record {
      left : entries_from l.at (lines l.rest) ≡ entries_from l.fn.number (lines l.fn.text);
      counted : l.at + length (lines l.rest) ≡ l.fn.number + length (lines l.fn.text);
      shorter : length l.rest ≤ length l.fn.text;
      room : l.at + length l.rest ≤ l.fn.number + length l.fn.text;
    }

abbrev pub decreases-loop-rest : goal.decreases-loop-rest
decreases-loop-rest l = length l.rest
