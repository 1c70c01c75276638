use Rattle.std.proofs.Common.{◌≡◌, ℕ, List, []}
use Rattle.std.specs.Io.KnownBytes.{Appends}
use Rattle.sci_core.specs.Closed.{ClosedLine}
use Rattle.sci_dump.specs.Streams.{HasRead}
use Rattle.sci_serve.specs.Large.{IsTold}
use Rattle.sci_serve.proofs.large.check_lines.Given as goal

-- the lines so far are told
abbrev pub invariant-loop-number : goal.invariant-loop-number
invariant-loop-number g l =
    record {
      told : (input : List ℕ) → HasRead input [] l.fn.first (g.R.Read.remaining l.fn.reader)
          → (cs : List ClosedLine) × (text : List ℕ) × HasRead input cs l.stream (g.R.Read.remaining l.reader) × IsTold cs l.verdict text × Appends (g.W.Write.contents l.fn.writer) (g.W.Write.contents l.writer) text;
      at : l.stream.closed ≡ l.number;
      all : l.stream.head.lines ≡ l.number-end;
    }
