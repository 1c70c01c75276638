use Rattle.std.proofs.Common.{◌≡◌, length}
use Rattle.sci_script.specs.Unused.{AreIdle}
use Rattle.sci_script.proofs.nodes.idle.Given as goal

abbrev pub invariant-loop-number : goal.invariant-loop-number
invariant-loop-number l =
    record {
      counted : length l.nodes.items ≡ l.number;
      idle : AreIdle l.size.lines l.script.capacity l.number l.nodes.items;
    }
