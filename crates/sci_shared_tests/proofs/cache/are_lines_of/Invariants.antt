use Rattle.std.proofs.Common.{ℕ, ◌<◌, get_or}
use Rattle.sci_core.specs.declared.keeps.AnyWords.{AnyWords}
use Rattle.sci_port.specs.Banks.{IsLineOf}
use Rattle.sci_shared_tests.proofs.cache.are_lines_of.Given as goal

abbrev pub invariant-loop-line : goal.invariant-loop-line
invariant-loop-line l = (keep : AnyWords) (k : ℕ) (d : _) → k < l.line → IsLineOf keep l.me k (get_or l.wholes k d)
