use Rattle.std.proofs.Common.{◌≡◌, length}
use Rattle.sci_logs.specs.Steps.{AreUnused}
use Rattle.sci_logs.proofs.follower.unused.Given as goal

abbrev pub invariant-loop-number : goal.invariant-loop-number
invariant-loop-number l =
    record {
      counted : length l.lines.items ≡ l.number;
      unused : AreUnused l.size.nodes l.number l.lines.items;
    }
