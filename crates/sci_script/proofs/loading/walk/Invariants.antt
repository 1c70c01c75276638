use Rattle.std.proofs.Common.{◌≡◌, ◌<◌, length, IfSome}
use Rattle.sci_script.specs.Run.{Walked}
use Rattle.sci_script.proofs.loading.walk.Given as goal

abbrev pub invariant-loop : goal.invariant-loop
invariant-loop g l =
    record {
      so_far : Walked g.D.Desk.does l.line l.fn.head l.entries.items l.next l.fn.desk l.desk;
      counted : length l.entries.items ≡ l.counter;
      size : g.D.Desk.size l.desk ≡ g.D.Desk.size l.fn.desk;
      link : IfSome l.next (λ n. n < (g.D.Desk.size l.fn.desk).nodes);
    }
