use Rattle.std.proofs.Common.{◌≡◌}
use Rattle.sci_dump.specs.Streams.{from_line}
use Rattle.sci_reasons.proofs.why.why_line.Given as goal

-- the text from this line on is left
abbrev pub invariant-loop : goal.invariant-loop
invariant-loop l =
    record {
      rest : l.rest ≡ from_line l.counter l.fn.text;
      first : l.fn.line ≡ 0 → l.counter ≡ 1;
    }
