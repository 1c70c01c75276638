use Rattle.std.proofs.Common.{◌≡◌, None}
use Rattle.sci_script.specs.Event.{SawTag}
use Rattle.sci_script.specs.Run.{Repeats}
use Rattle.sci_script.proofs.loading.load_tag.Given as goal

-- each load so far gave None
abbrev pub invariant-loop : goal.invariant-loop
invariant-loop g l =
    record {
      so_far : Repeats g.D.Desk.does (SawTag l.line l.node None) l.counter l.fn.desk l.desk;
      size : g.D.Desk.size l.desk ≡ g.D.Desk.size l.fn.desk;
    }
