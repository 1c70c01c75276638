use Rattle.std.proofs.Common.{◌∙◌, ap, ℕ}
use Rattle.sci_ops.specs.declared.goals.Goal.{Goal}
use Rattle.sci_ops.specs.declared.goals.Write.{Write}
use Rattle.sci_ops.specs.Table.{begun}
use Rattle.sci_ops.proofs.ops.Op.add.Goals as goal

pub returns-clause-value : goal.returns-clause-value
returns-clause-value c = c.towards.ensures ∙ ap (λ (w : ℕ). begun (Goal.Write (Write.Add w c.args.delta))) c.in_ok-word.ensures.value
