-- Where any words fit, so does what an operation stores.
use Rattle.sci_ops.specs.declared.goals.Goal.{Goal}
use Rattle.sci_ops.specs.Change.{StoresFitting}

pub any_store_fits : (goal : Goal) → StoresFitting (λ _. Unit {0}) goal
any_store_fits (Goal.Write write) = λ words e fits. tt
any_store_fits Goal.Load = tt
any_store_fits Goal.Evict = tt
