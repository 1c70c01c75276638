-- Where any words fit, so does what an open call stores.
use Rattle.std.proofs.Common.{Option, Some, None, IfSome}
use Rattle.sci_ops.specs.Change.{StoresFitting}
use Rattle.sci_ops.proofs.Storing.{any_store_fits}
use Rattle.sci_cache.specs.declared.calls.OpenCall.{OpenCall}

pub any_call_fits : (call : Option OpenCall) → IfSome call (λ (c : OpenCall). StoresFitting (λ _. Unit {0}) c.goal)
any_call_fits None = tt
any_call_fits (Some c) = any_store_fits c.goal
