use Rattle.std.proofs.Common.{◌≡◌, ap, subst, sym}
use Rattle.sci_core.specs.Stage.{pending_of, stage_of}
use Rattle.sci_core.proofs.Laying.{stage_with}
use Rattle.sci_fine.specs.Standings.{StandingOn}
use Rattle.sci_fine.proofs.standing.Standing.line.Goals as goal

pub returns : goal.returns
returns g c =
    let i = c.self.inside in
    subst (λ (s : StandingOn g.row.K.Denot). s.pending ≡ pending_of (stage_of s.pending) i.line) c.self.view_is (ap (λ s. pending_of s i.line) (sym (stage_with i.stage i.line)))
