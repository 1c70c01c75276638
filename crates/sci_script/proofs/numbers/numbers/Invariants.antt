use Rattle.std.proofs.Common.{◌≡◌, ◌+◌, drop, map}
use Rattle.sci_script.specs.Grammar.{number_reason}
use Rattle.sci_script.proofs.Ranges.{first_numbers}
use Rattle.sci_script.proofs.numbers.numbers.Given as goal

-- the words so far are numbers in their ranges, and these numbers
abbrev pub invariant-loop-i : goal.invariant-loop-i
invariant-loop-i l =
    record {
      none : number_reason (l.i + 2) l.size (drop l.i l.wanted) (drop l.i (map (λ w. w.now) l.args)) ≡ number_reason 2 l.size l.wanted (map (λ w. w.now) l.args);
      value : l.numbers ≡ first_numbers l.i (map (λ w. w.now) l.args);
    }
