use Rattle.std.proofs.Common.{◌≡◌, List, Some}
use Rattle.sci_core.specs.Closed.{ClosedLine}
use Rattle.sci_dump.specs.Streams.{HasRead}
use Rattle.sci_reasons.proofs.why.read_through.Given as goal

-- these lines are read
abbrev pub invariant-loop : goal.invariant-loop
invariant-loop l =
    record {
      read : (lines : List ClosedLine) × HasRead l.fn.text lines l.stream (Some l.reader);
      at : l.stream.closed ≡ l.counter;
      all : l.stream.head.lines ≡ l.end;
    }
