use Rattle.std.proofs.Common.{◌≡◌, ◌<◌, All}
use Rattle.sci_script_tests.proofs.growths.performs.Given as goal

abbrev pub invariant-loop-step : goal.invariant-loop-step
invariant-loop-step g l = record {
  size : l.desk.size ≡ l.script.size;
  range : All (λ w. w < 8) l.words;
}
