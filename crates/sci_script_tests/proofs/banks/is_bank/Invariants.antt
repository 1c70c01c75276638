use Rattle.std.proofs.Common.{◌≡◌, ℕ, ◌<◌}
use Rattle.sci_script_tests.proofs.banks.is_bank.Given as goal

abbrev pub invariant-loop-line : goal.invariant-loop-line
invariant-loop-line g l = (k : ℕ) → k < l.line → g.B.Bank.nodes_on l.bank k ≡ l.script.size.nodes
