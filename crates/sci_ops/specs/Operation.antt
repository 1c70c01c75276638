-- What contracts see of an operation.
use Rattle.std.specs.Prelude.{Option}
use Rattle.sci_ops.specs.declared.goals.Goal.{Goal}
use Rattle.sci_ops.specs.declared.answers.Answer.{Answer}

-- what it is for and, once it has ended, its answer
pub record Operation : Type 0 where
  pub goal : Goal
  pub answer : Option Answer
