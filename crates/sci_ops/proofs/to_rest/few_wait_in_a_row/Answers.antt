use Rattle.sci_ops.proofs.Resting.Row.{at_most}
use Rattle.sci_ops.proofs.to_rest.few_wait_in_a_row.Goals as goal

pub returns : goal.returns
returns c = λ n s nodes h each. at_most n s h nodes each
