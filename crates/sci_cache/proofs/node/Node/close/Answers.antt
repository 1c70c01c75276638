use Rattle.std.proofs.Common.{sym, subst, List, ℕ}
use Rattle.std.specs.Map.{keys_of}
use Rattle.sci_cache.specs.Residents.{AreBelow}
use Rattle.sci_cache.proofs.Ordered.{below_without}
use Rattle.sci_cache.proofs.node.Node.close.Goals as goal

pub invariant_of-self : goal.invariant_of-self
invariant_of-self c = record {
  residents = subst (λ (xs : List ℕ). AreBelow c.self.inside.lines xs) (sym c.take_out.ensures.taken) (below_without c.self.inside.lines c.line.result (keys_of c.self.inside.table.entries) c.self.invariant.residents);
  call = c.self.invariant.call;
}
