use Rattle.std.proofs.Common.{◌≡◌}
use Rattle.sci_script.specs.Run.{RestsLines}
use Rattle.sci_script.proofs.running.all_rest.Given as goal

-- the lines so far are at rest
abbrev pub invariant-loop-line : goal.invariant-loop-line
invariant-loop-line g l =
    record {
      so_far : RestsLines g.D.Desk.does l.line l.fn.desk l.desk;
      size : g.D.Desk.size l.desk ≡ g.D.Desk.size l.fn.desk;
    }
