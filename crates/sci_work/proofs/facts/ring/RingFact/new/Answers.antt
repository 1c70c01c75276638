use Rattle.std.proofs.Common.{refl}
use Rattle.sci_work.proofs.facts.ring.RingFact.new.Goals as goal

pub returns-clause-lines : goal.returns-clause-lines
returns-clause-lines c = refl
