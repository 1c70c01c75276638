use Rattle.std.proofs.Common.{◌≡◌, ◌-◌, All, length}
use Rattle.sci_histories.specs.Reading.{lines_at}
use Rattle.sci_histories.proofs.Looping.{with}
use Rattle.sci_histories.proofs.reader.read_lines.Given as goal

-- the lines so far and those of what is left are those of all
abbrev pub invariant-loop-line : goal.invariant-loop-line
invariant-loop-line l =
    record {
      left : with l.lines.items (lines_at l.line (l.count - l.line) l.nodes l.number l.rest) ≡ lines_at 0 l.count l.nodes 2 l.text;
      each : All (λ h. length h.lists ≡ l.nodes) l.lines.items;
      count : length l.lines.items ≡ l.line;
    }
