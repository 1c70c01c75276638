use Rattle.std.proofs.Common.{◌≡◌, ◌+◌, ◌*◌, ◌≤◌, ℕ, length}
use Rattle.sci_core.specs.Progress.{IsAtRest}
use Rattle.sci_core.specs.Whole.{IsSameLine, nodes_of, state_of}
use Rattle.sci_ops.specs.Rest.{EndsEach, op_at}
use Rattle.sci_ops.proofs.to_rest.end.Given as goal

-- the operations of the nodes so far have ended, one after another, and the others are as they were
abbrev pub invariant-loop-number : goal.invariant-loop-number
invariant-loop-number g l = record {
  same : IsSameLine l.fn.whole l.whole;
  rest : IsAtRest (state_of l.whole);
  count : length l.ops ≡ length l.fn.ops;
  left : (i : ℕ) → l.number ≤ i → op_at l.ops i ≡ op_at l.fn.ops i;
  ends : (turns : ℕ) × (l.steps ≡ l.initial.steps + turns) × EndsEach (nodes_of l.fn.whole) (g.K.Keeps.fits l.fn.whole.keep l.fn.whole.number) l.number l.fn.ops l.ops (state_of l.initial.whole) turns (state_of l.whole);
  bound : l.steps ≤ l.initial.steps + l.number * (3 * nodes_of l.fn.whole + 16);
}
