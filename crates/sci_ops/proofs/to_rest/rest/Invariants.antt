use Rattle.std.proofs.Common.{◌≡◌, ◌+◌, ◌*◌, ◌≤◌, ℕ}
use Rattle.sci_core.specs.declared.lines.Line.{Line}
use Rattle.sci_core.specs.Run.{HasValue}
use Rattle.sci_core.specs.Whole.{IsSameLine, nodes_of, state_of}
use Rattle.sci_ops.specs.Ranking.{ranking}
use Rattle.sci_ops.specs.Rest.{Rests}
use Rattle.sci_ops.proofs.to_rest.rest.Given as goal

-- the turns so far, and those that are left, are at most as many as the line was far from rest
abbrev pub invariant-loop-node : goal.invariant-loop-node
invariant-loop-node g l = record {
  same : IsSameLine l.initial.whole l.whole;
  turns : (k : ℕ) × (l.steps ≡ l.initial.steps + k) × Rests (nodes_of l.initial.whole) (g.K.Keeps.fits l.initial.whole.keep l.initial.whole.number) (state_of l.initial.whole) k (state_of l.whole);
  value : (v : Line) → HasValue (nodes_of l.initial.whole) (g.K.Keeps.fits l.initial.whole.keep l.initial.whole.number) (state_of l.initial.whole) v → HasValue (nodes_of l.initial.whole) (g.K.Keeps.fits l.initial.whole.keep l.initial.whole.number) (state_of l.whole) v;
  bound : l.steps + ranking (nodes_of l.initial.whole) (state_of l.whole) ≤ l.initial.steps + (nodes_of l.initial.whole * nodes_of l.initial.whole + 9 * nodes_of l.initial.whole);
}

abbrev pub decreases-loop-node : goal.decreases-loop-node
decreases-loop-node g l = ranking (nodes_of l.initial.whole) (state_of l.whole)
