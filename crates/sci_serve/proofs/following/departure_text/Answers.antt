use Rattle.std.proofs.Common.{rules, append_assoc}
use Rattle.sci_serve.proofs.following.departure_text.Goals as goal

pub returns : goal.returns
returns c = let h = rw c.reason-reason.ensures at c.format.ensures.ok in search (rules, append_assoc, h)
