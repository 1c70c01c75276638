use Rattle.std.proofs.Common.{ℕ, ◌<◌, get_or}
use Rattle.sci_work.specs.Starts.{IsNoRefusal}
use Rattle.sci_work.proofs.starting.first_refusal.Given as goal

abbrev pub invariant-loop-one : goal.invariant-loop-one
invariant-loop-one g l = (k : ℕ) (d : _) → k < l.one-index → IsNoRefusal (get_or l.done k d).share
