use Rattle.std.proofs.Common.{◌≤◌, vec_len}
use Rattle.sci_dump.specs.Streams.{IsFront}
use Rattle.sci_dump.proofs.text_lines.advance.Given as goal

-- the bytes of the line so far
abbrev pub invariant-loop : goal.invariant-loop
invariant-loop g l = record { front : IsFront (g.R.Read.remaining l.fn.reader) (g.R.Read.remaining l.reader) l.line.items; few : vec_len l.line ≤ 1024 }
