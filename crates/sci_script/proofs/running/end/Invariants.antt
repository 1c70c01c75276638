use Rattle.std.proofs.Common.{◌≡◌, string_bytes}
use Rattle.sci_script.specs.Run.{EndsOpen}
use Rattle.sci_script.proofs.running.end.Given as goal

-- the calls of the nodes so far have ended, one after another, behind rest
abbrev pub invariant-loop-place : goal.invariant-loop-place
invariant-loop-place g l =
    record {
      so_far : EndsOpen g.D.Desk.is_open g.D.Desk.does l.words l.place l.initial.desk (string_bytes l.text) l.desk;
      size : g.D.Desk.size l.desk ≡ g.D.Desk.size l.initial.desk;
    }
