use Rattle.std.proofs.Common.{rules, ap, sym}
use Rattle.sci_cache.specs.Requests.{is_evict}
use Rattle.sci_cache.proofs.requests.Request.is_evict.Goals as goal

pub returns-in-Evict : goal.returns-in-Evict
returns-in-Evict c = ap is_evict (sym c.in-Evict.is)

pub returns-in_default : goal.returns-in_default
returns-in_default c = search rules
