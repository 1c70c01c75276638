use Rattle.std.proofs.Common.{ap}
use Rattle.sci_core.specs.Whole.{WholeLine}
use Rattle.sci_core.proofs.Sound.{memory_links}
use Rattle.sci_core.proofs.whole.Whole.mem.Goals as goal

pub returns-clause-value : goal.returns-clause-value
returns-clause-value g c = ap (λ (w : WholeLine g.row.K.Denot). w.memory) c.self.view_is

pub returns-clause-links : goal.returns-clause-links
returns-clause-links g c = rw (← c.self.view_is) (memory_links _ _ c.self.invariant.sound.ruled.links)
