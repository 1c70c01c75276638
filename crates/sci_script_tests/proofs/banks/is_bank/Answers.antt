use Rattle.std.proofs.Common.{rules, ◌≡◌, ℕ}
use borrow.Author.Count.{below_more}
use Rattle.sci_script_tests.proofs.banks.is_bank.Goals as goal

pub loop-line-preserved : goal.loop-line-preserved
loop-line-preserved g c = below_more (λ k. g.B.Bank.nodes_on c.args.bank.now k ≡ c.args.script.now.size.nodes) c.loop-line.line c.loop-line.invariant (search rules)

pub returns : goal.returns
returns g c = λ _. record { node_is = search rules; lines_are = search rules; nodes_are = λ line below. c.loop-line.invariant line (search rules); any = c.requires }
