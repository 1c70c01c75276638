use Rattle.std.proofs.Common.{◌≡◌, ℕ, ◌<◌, Some}
use Rattle.std.specs.List.{slice_get}
use Rattle.sci_script.specs.BankDesks.{IsBankOf}
use Rattle.sci_script_tests.proofs.banks.are_banks.Given as goal

abbrev pub invariant-loop-number : goal.invariant-loop-number
invariant-loop-number g l = (k : ℕ) (b : _) → k < l.number → slice_get l.banks k ≡ Some b → IsBankOf g.B.Bank.way g.B.Bank.nodes_on (λ x line words. g.B.Keep.Keeps.fits (g.B.Bank.keep x) line words) l.script.size k b
