use Rattle.std.proofs.Common.{rules, subst}
use Rattle.sci_core.specs.Whole.{WholeLine, IsSound}
use Rattle.sci_core.proofs.Lawfully.{lawful_line}
use Rattle.sci_core.proofs.whole.Whole.nodes.Goals as goal

pub returns-clause-lawful : goal.returns-clause-lawful
returns-clause-lawful g c =
    let sound = subst (λ (w : WholeLine g.row.K.Denot). IsSound (g.K.Keeps.fits w.keep w.number) w) c.self.view_is c.self.invariant.sound in
    lawful_line _ _ _ sound.ruled

pub returns-clause-nodes : goal.returns-clause-nodes
returns-clause-nodes g c = search rules

pub returns-clause-range : goal.returns-clause-range
returns-clause-range g c = search rules
