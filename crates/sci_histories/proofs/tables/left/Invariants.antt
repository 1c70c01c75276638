use Rattle.std.proofs.Common.{◌≡◌, ◌-◌, take}
use Rattle.sci_histories.specs.Counts.{count_of}
use Rattle.sci_histories.proofs.tables.left.Given as goal

abbrev pub invariant-loop-node : goal.invariant-loop-node
invariant-loop-node l = l.left ≡ l.stamps - count_of (take l.node l.lists)
