use Rattle.std.proofs.Common.{rules, subst}
use Rattle.sci_core.specs.Whole.{WholeLine, IsSound}
use Rattle.sci_core.proofs.Waited.{moves_as, waits_as, circle}
use Rattle.sci_core.proofs.whole.Whole.waits_for.Goals as goal

pub returns-then-goes : goal.returns-then-goes
returns-then-goes g c =
    let sound = subst (λ (w : WholeLine g.row.K.Denot). IsSound (g.K.Keeps.fits w.keep w.number) w) c.self.view_is c.self.invariant.sound in
    record { waits = moves_as _ c.args.self.now sound c.args.node (search rules); no_circle = circle _ c.args.self.now sound }

pub returns-else-goes : goal.returns-else-goes
returns-else-goes g c =
    let sound = subst (λ (w : WholeLine g.row.K.Denot). IsSound (g.K.Keeps.fits w.keep w.number) w) c.self.view_is c.self.invariant.sound in
    record { waits = waits_as _ c.args.self.now sound c.args.node (search rules) c.sought.result c.sought.ensures; no_circle = circle _ c.args.self.now sound }
