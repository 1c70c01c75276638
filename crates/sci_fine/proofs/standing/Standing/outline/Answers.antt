use Rattle.std.proofs.Common.{◌≡◌, subst}
use Rattle.sci_core.specs.Stage.{outline_of}
use Rattle.sci_core.specs.Table.{row_of}
use Rattle.sci_fine.specs.Standings.{StandingOn}
use Rattle.sci_fine.proofs.standing.Standing.outline.Goals as goal

pub returns-clause-value : goal.returns-clause-value
returns-clause-value g c =
    subst (λ (s : StandingOn g.row.K.Denot). c.outline.result ≡ outline_of (row_of s.node s.pending c.args.event.now)) c.self.view_is (c.outline.ensures c.self.inside.line)
