use Rattle.std.proofs.Common.{◌≡◌, length}
use Rattle.sci_script.specs.Unused.{AreOpened}
use Rattle.sci_script.proofs.whole_desk.unused.Given as goal

abbrev pub invariant-loop-number : goal.invariant-loop-number
invariant-loop-number l =
    record {
      counted : length l.wholes.items ≡ l.number;
      opened : AreOpened l.size.nodes l.script.openings.items l.number l.wholes.items;
    }
