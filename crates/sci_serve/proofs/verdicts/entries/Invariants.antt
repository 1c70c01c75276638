use Rattle.sci_serve.proofs.Listing.{Listed}
use Rattle.sci_serve.proofs.verdicts.entries.Given as goal

abbrev pub invariant-loop : goal.invariant-loop
invariant-loop l = Listed l.closed l.entries.items l.counter l.next
