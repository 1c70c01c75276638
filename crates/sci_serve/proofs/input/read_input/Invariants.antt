use Rattle.std.proofs.Common.{ℕ, List}
use Rattle.std.specs.Io.KnownBytes.{Consumes}
use Rattle.sci_serve.specs.Input.{IsKept}
use Rattle.sci_serve.proofs.input.read_input.Given as goal

-- the bytes that were read, and what is kept of them
abbrev pub invariant-loop : goal.invariant-loop
invariant-loop g l =
    (seen : List ℕ) × Consumes (g.R.Read.remaining l.fn.reader) (g.R.Read.remaining l.reader) seen × IsKept l.fn.limit l.kept seen
