use Rattle.std.proofs.Common.{rules}
use Rattle.sci_words.proofs.nodes.NodeId.new.Goals as goal

pub returns-then-number-lt65535-clause-some : goal.returns-then-number-lt65535-clause-some
returns-then-number-lt65535-clause-some c = search rules
