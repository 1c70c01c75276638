use Rattle.sci_dump.specs.Rules.{tag}
use Rattle.sci_dump.proofs.Walks.{Sought}
use Rattle.sci_dump.proofs.checking.is_on_chain.Given as goal

abbrev pub invariant-loop : goal.invariant-loop
invariant-loop l = Sought (λ i. (tag l.closed i).forw) l.closed.mem.forw l.wanted l.counter l.next
