use Rattle.std.proofs.Common.{refl}
use Rattle.sci_work.proofs.facts.stencil.StencilFact.new.Goals as goal

pub returns-clause-phases : goal.returns-clause-phases
returns-clause-phases c = refl
