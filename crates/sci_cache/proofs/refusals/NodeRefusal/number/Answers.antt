use Rattle.std.proofs.Common.{ap, sym}
use Rattle.sci_cache.specs.Refusals.{refusal_number}
use Rattle.sci_cache.proofs.refusals.NodeRefusal.number.Goals as goal

pub returns-in-NoCall : goal.returns-in-NoCall
returns-in-NoCall c = ap refusal_number (sym c.in-NoCall.is)
