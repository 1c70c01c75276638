use Rattle.std.proofs.Common.{◌≡◌, ℕ}
use Rattle.sci_script.specs.Run.{Calms}
use Rattle.sci_script.proofs.running.line_rests.Given as goal

-- the turns so far
abbrev pub invariant-turns : goal.invariant-turns
invariant-turns g l =
    record {
      so_far : (n : ℕ) × Calms g.D.Desk.does l.line n l.initial.desk l.desk;
      size : g.D.Desk.size l.desk ≡ g.D.Desk.size l.initial.desk;
    }

abbrev pub decreases-turns : goal.decreases-turns
decreases-turns g l = g.D.Desk.far l.desk l.line
