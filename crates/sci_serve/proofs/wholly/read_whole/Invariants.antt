use Rattle.std.proofs.Common.{ℕ, List}
use Rattle.std.specs.Io.KnownBytes.{Consumes}
use Rattle.sci_serve.specs.Legality.{IsAll}
use Rattle.sci_serve.proofs.wholly.read_whole.Given as goal

-- the bytes that were read, which are all kept
abbrev pub invariant-loop : goal.invariant-loop
invariant-loop g l =
    (seen : List ℕ) × Consumes (g.R.Read.remaining l.fn.reader) (g.R.Read.remaining l.reader) seen × IsAll l.kept seen
