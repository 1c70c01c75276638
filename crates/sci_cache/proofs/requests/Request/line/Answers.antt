use Rattle.std.proofs.Common.{rules}
use Rattle.sci_cache.proofs.requests.Request.line.Goals as goal

pub returns : goal.returns
returns c = search rules
