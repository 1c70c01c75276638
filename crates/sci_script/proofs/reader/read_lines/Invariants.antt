use Rattle.std.proofs.Common.{◌≡◌, ◌+◌, ◌<◌, ◌^◌, length}
use Rattle.std.specs.Str.Lines.{lines}
use Rattle.sci_script.specs.Format.{entries_from, sayings_of, unsaid, with_lines}
use Rattle.sci_script.proofs.reader.read_lines.Given as goal

-- the lines so far are said
abbrev pub invariant-loop-entry : goal.invariant-loop-entry
invariant-loop-entry l =
    record {
      left : with_lines (sayings_of l.draft) (entries_from l.at (lines l.rest)) ≡ with_lines unsaid (entries_from 1 (lines l.fn.text));
      counted : l.at + length (lines l.rest) ≡ 1 + length (lines l.fn.text);
      room : l.at + length l.rest < 2 ^ 64;
    }

abbrev pub decreases-loop-entry : goal.decreases-loop-entry
decreases-loop-entry l = length l.rest
