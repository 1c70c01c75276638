use Rattle.std.proofs.Common.{◌≤◌, ◌*◌, ℕ, List}
use Rattle.std.specs.Io.KnownBytes.{Consumes}
use Rattle.sci_serve.specs.Gathered.{IsGathered}
use Rattle.sci_serve.proofs.kinds.Beginning.read.Given as goal

-- all bytes so far
abbrev pub invariant-loop-earlier : goal.invariant-loop-earlier
invariant-loop-earlier g l =
    record {
      read : (seen : List ℕ) × IsGathered l.gathered seen × Consumes (g.R.Read.remaining l.fn.reader) (g.R.Read.remaining l.reader) seen;
      passed : l.gathered.passed ≤ 4096 * l.earlier;
      fewer : l.gathered.lines ≤ l.gathered.passed;
    }
