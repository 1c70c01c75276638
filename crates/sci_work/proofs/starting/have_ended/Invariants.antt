use Rattle.std.proofs.Common.{ℕ, ◌<◌, IsOk, get_or}
use Rattle.sci_work.proofs.starting.have_ended.Given as goal

abbrev pub invariant-loop-one : goal.invariant-loop-one
invariant-loop-one g l = (k : ℕ) (d : _) → k < l.one-index → IsOk (get_or l.done k d).share
