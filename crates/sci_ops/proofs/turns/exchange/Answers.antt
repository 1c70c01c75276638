use Rattle.sci_ops.proofs.Took.{took_step}
use Rattle.sci_ops.proofs.turns.exchange.Goals as goal

pub returns : goal.returns
returns g c = took_step _ c.step-outcome.ensures.gives c.kind_after.ensures
