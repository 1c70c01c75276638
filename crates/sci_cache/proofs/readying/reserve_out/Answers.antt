use Rattle.std.proofs.Common.{◌≢◌, ◌≤◌, Option, IfSome, OnOk, ℕ, refl, sym, subst}
use Rattle.sci_port.specs.KeepsAll.{as_it_was}
use Rattle.sci_ops.specs.declared.goals.Goal.{Goal}
use Rattle.sci_cache.specs.Called.{most_needed}
use Rattle.sci_cache.specs.Nodes.{IsLine}
use Rattle.sci_cache.proofs.readying.reserve_out.Goals as goal

pub returns-in_default : goal.returns-in_default
returns-in_default g c = record {
  readied = as_it_was;
  room = subst (λ (o : Option ℕ). IfSome o (λ w. most_needed Goal.Evict ≤ (g.B.Bank.receipts c.args.bank.now w).room)) (sym c.in_default.is) tt;
  same = λ m. record { list = refl; passing = refl };
  others = λ m other. refl;
}

pub reserve_at-requires : goal.reserve_at-requires
reserve_at-requires g c = record { line = subst (λ (o : Option ℕ). IsLine (g.B.Bank.way c.args.bank.now).lines o) c.in-Some.is c.requires.line }

pub returns : goal.returns
returns g c = record {
  readied = c.reserve_at.ensures.readied;
  room = subst (λ (o : Option ℕ). OnOk c.reserve_at.result (IfSome o (λ w. most_needed Goal.Evict ≤ (g.B.Bank.receipts c.reserve_at.new.bank w).room))) (sym c.in-Some.is) c.reserve_at.ensures.room;
  same = c.reserve_at.ensures.same;
  others = λ m other. c.reserve_at.ensures.others m (subst (λ (o : Option ℕ). IfSome o (λ w. m ≢ w)) c.in-Some.is other);
}
