use Rattle.std.proofs.Common.{ℕ, ◌<◌, slice_index_or}
use Rattle.sci_core.specs.declared.lines.Line.{Line}
use Rattle.sci_dump.specs.ReadBack.{IsContent}
use Rattle.sci_dump.proofs.ranges.show_contents.Given as goal

abbrev pub invariant-loop-line : goal.invariant-loop-line
invariant-loop-line l = (k : ℕ) (d : Line) → k < l.line-index → IsContent (slice_index_or l.lines k d)
