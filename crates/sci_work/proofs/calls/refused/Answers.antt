use Rattle.std.proofs.Common.{refl}
use Rattle.sci_work.proofs.calls.refused.Goals as goal

pub returns-in-OutOfMemory-clause-comes : goal.returns-in-OutOfMemory-clause-comes
returns-in-OutOfMemory-clause-comes c = tt

pub returns-in-OutOfMemory-clause-memory : goal.returns-in-OutOfMemory-clause-memory
returns-in-OutOfMemory-clause-memory c = λ _. refl

pub returns-in-StampsSpent-clause-spent : goal.returns-in-StampsSpent-clause-spent
returns-in-StampsSpent-clause-spent c = λ _. refl
