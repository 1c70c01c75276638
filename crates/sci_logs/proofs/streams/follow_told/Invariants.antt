use Rattle.sci_logs.proofs.Cutting.{Stands}
use Rattle.sci_logs.proofs.streams.follow_told.Given as goal

-- what the reader had is without fault up to what it has left
abbrev pub invariant-loop-number : goal.invariant-loop-number
invariant-loop-number g l = Stands (g.R.Read.remaining l.fn.reader) (g.R.Read.remaining l.reader) l.log l.number
