use Rattle.std.proofs.Common.{length}
use Rattle.sci_dump.specs.Rules.{tag}
use Rattle.sci_dump.proofs.Walks.{Walked}
use Rattle.sci_dump.proofs.checking.is_ending.Given as goal

abbrev pub invariant-loop : goal.invariant-loop
invariant-loop l = Walked (length l.closed.tags) (λ i. (tag l.closed i).forw) l.closed.mem.forw l.counter l.next
