use Rattle.std.proofs.Common.{rules, subst}
use Rattle.sci_script.specs.BankDesks.{AreBanksOf}
use Rattle.sci_script_tests.proofs.banks.run_over.Goals as goal

pub new-requires : goal.new-requires
new-requires g c = subst (AreBanksOf g.B.Bank.way g.B.Bank.nodes_on (λ b line words. g.B.Keep.Keeps.fits (g.B.Bank.keep b) line words) c.args.script.now.size) c.deref.ensures.value (c.are_banks.ensures (search rules))
