use Rattle.std.proofs.Common.{◌≡◌, ◌-◌, ◌+◌, ◌*◌, ◌≤◌, All, length}
use Rattle.sci_dump.specs.Reading.{lines_at}
use Rattle.sci_dump.proofs.Looping.{with_lines}
use Rattle.sci_dump.proofs.reader.read_lines.Given as goal

-- the lines so far and those of what is left are those of all
abbrev pub invariant-loop-line : goal.invariant-loop-line
invariant-loop-line l =
    record {
      left : with_lines l.layout l.lines.items (lines_at l.layout l.line (l.count - l.line) l.nodes l.number l.rest) ≡ lines_at l.layout 0 l.count l.nodes 2 l.text;
      each : All (λ c. length c.tags ≡ l.nodes) l.lines.items;
      count : length l.lines.items ≡ l.line;
      near : l.number ≤ 2 + 1025 * l.line;
    }
