use Rattle.std.proofs.Common.{◌≡◌, ◌+◌, ◌*◌, ◌≤◌, ℕ, length}
use Rattle.sci_core.specs.Whole.{IsSameLine}
use Rattle.sci_script.specs.Nodes.{whole_of}
use Rattle.sci_script.specs.Resting.{ComeToRest}
use Rattle.sci_script.proofs.resting.rest_all.Given as goal

-- the lines so far are at rest, and the others are as they were
abbrev pub invariant-loop-line : goal.invariant-loop-line
invariant-loop-line g l = record {
  count : length l.wholes.items ≡ length l.initial.wholes.items;
  same : (line : ℕ) → IsSameLine (whole_of l.initial.wholes.items line) (whole_of l.wholes.items line);
  left : (line : ℕ) → l.line ≤ line → whole_of l.wholes.items line ≡ whole_of l.initial.wholes.items line;
  rested : (k : ℕ) × (l.steps ≡ l.initial.steps + k) × ComeToRest l.fn.size.nodes l.line l.initial.wholes.items k l.wholes.items;
  bound : l.steps ≤ l.initial.steps + l.line * (l.fn.size.nodes * l.fn.size.nodes + 9 * l.fn.size.nodes);
}
