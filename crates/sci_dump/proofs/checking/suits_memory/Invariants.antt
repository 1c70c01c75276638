use Rattle.std.proofs.Common.{◌<◌, ℕ}
use Rattle.sci_dump.specs.Rules.{tag}
use Rattle.sci_dump.proofs.Deciding.{IsSuitedTag}
use Rattle.sci_dump.proofs.checking.suits_memory.Given as goal

abbrev pub invariant-loop-node : goal.invariant-loop-node
invariant-loop-node l = (i : ℕ) → i < l.node → IsSuitedTag l.closed.mem.state (tag l.closed i)
