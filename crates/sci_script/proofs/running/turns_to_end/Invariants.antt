use Rattle.std.proofs.Common.{◌≡◌, true}
use Rattle.sci_script.specs.Run.{Unended}
use Rattle.sci_script.proofs.running.turns_to_end.Given as goal

abbrev pub invariant-loop : goal.invariant-loop
invariant-loop g l =
    record {
      so_far : Unended g.D.Desk.does l.node l.counter l.fn.desk l.desk;
      is_still_open : g.D.Desk.is_open l.desk l.node ≡ true;
      size : g.D.Desk.size l.desk ≡ g.D.Desk.size l.fn.desk;
    }
