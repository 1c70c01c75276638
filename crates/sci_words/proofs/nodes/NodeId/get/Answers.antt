use Rattle.std.proofs.Common.{rules}
use Rattle.sci_words.proofs.nodes.NodeId.get.Goals as goal

pub returns-clause-value : goal.returns-clause-value
returns-clause-value c = search rules
