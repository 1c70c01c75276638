use Rattle.std.proofs.Common.{ℕ, Option, refl, sym, subst, ◌∙◌}
use Rattle.sci_cache.specs.Called.{HasMadeWay}
use Rattle.sci_cache.specs.Nodes.{IsLine}
use Rattle.sci_cache.proofs.Keeping.{none_on}
use Rattle.sci_cache.proofs.Unopened.{has_way}
use Rattle.sci_cache.proofs.waiting.make_way.Goals as goal

pub returns-in_default : goal.returns-in_default
returns-in_default g c = record {
  runs = λ n d mine open_ out. has_way g.B.Bank.gives g.B.Bank.at_step c.args.bank.now n d open_ (out ∙ c.in_default.is);
  rest = λ idle. idle;
  kept = λ ready. none_on g.B.Bank.gives g.B.Bank.readies g.B.Bank.at_step g.B.Bank.receipts c.args.bank.now;
  others = λ m other. refl;
  same_way = refl;
  same_nodes = λ m. refl;
  same_fact = refl;
}

pub leave-requires : goal.leave-requires
leave-requires g c = record { line = subst (λ (o : Option ℕ). IsLine (g.B.Bank.way c.args.bank.now).lines o) c.in-Some.is c.requires.line }

pub returns : goal.returns
returns g c = subst (λ (o : Option ℕ). HasMadeWay g.B.Bank.way g.B.Bank.nodes_on g.B.Bank.keep g.B.Bank.gives g.B.Bank.readies g.B.Bank.at_step g.B.Bank.receipts o c.args.bank.now c.leave.new.bank) (sym c.in-Some.is) c.leave.ensures
