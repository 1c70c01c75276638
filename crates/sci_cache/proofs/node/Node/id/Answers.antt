use Rattle.std.proofs.Common.{ap}
use Rattle.sci_cache.specs.Nodes.{NodeState}
use Rattle.sci_cache.proofs.node.Node.id.Goals as goal

pub returns : goal.returns
returns c = ap (λ (n : NodeState). n.id) c.self.view_is
