use Rattle.std.proofs.Common.{take, All}
use Rattle.sci_dump.proofs.Dumpable.{IsDumpable}
use Rattle.sci_dump.proofs.ranges.show_lines.Given as goal

abbrev pub invariant-loop-closed : goal.invariant-loop-closed
invariant-loop-closed l = All IsDumpable (take l.closed-index l.lines)
