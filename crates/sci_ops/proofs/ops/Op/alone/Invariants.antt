use Rattle.std.proofs.Common.{◌≡◌, ◌+◌, ◌≤◌, ℕ}
use Rattle.sci_core.specs.Whole.{nodes_of, state_of}
use Rattle.sci_port.specs.Way.{way_to}
use Rattle.sci_ops.specs.declared.answers.Turn.{Turn}
use Rattle.sci_ops.specs.Alone.{Moves}
use Rattle.sci_ops.specs.Room.{IsProvided, KeepsSoFar}
use Rattle.sci_ops.proofs.Ending.Potential.{potential}
use Rattle.sci_ops.proofs.Ending.Premise.{Alone}
use Rattle.sci_ops.proofs.ops.Op.alone.Given as goal

-- the turns so far each moved, and with those that are left they are at most as many as were left at the beginning
abbrev pub invariant-turns : goal.invariant-turns
invariant-turns g l = record {
  same_op : l.self ≡ l.initial.self;
  same_way : way_to l.solo.whole.ghost_name l.solo.whole.now l.solo.node ≡ way_to l.initial.solo.whole.ghost_name l.initial.solo.whole.now l.initial.solo.node;
  same_fact : l.solo.whole.now.keep ≡ l.initial.solo.whole.now.keep;
  turns : (k : ℕ) × (l.steps ≡ l.initial.steps + k) × Moves (nodes_of l.initial.solo.whole.now) (g.K.Keeps.fits l.initial.solo.whole.now.keep l.initial.solo.whole.now.number) l.initial.solo.node l.initial.self (state_of l.initial.solo.whole.now) k (state_of l.solo.whole.now);
  kept : IsProvided l.initial.self.goal l.initial.self.answer ((state_of l.initial.solo.whole.now).steps l.initial.solo.node) l.initial.solo.receipts.now
      → IsProvided l.self.goal l.self.answer ((state_of l.solo.whole.now).steps l.solo.node) l.solo.receipts.now × KeepsSoFar l.initial.self l.initial.solo.receipts.now Turn.Moved l.solo.receipts.now;
  alone : Alone (nodes_of l.initial.solo.whole.now) l.initial.self.goal l.initial.solo.node (state_of l.solo.whole.now);
  cost : l.steps + potential (nodes_of l.initial.solo.whole.now) l.initial.self.goal l.initial.solo.node (state_of l.solo.whole.now) ≤ l.initial.steps + potential (nodes_of l.initial.solo.whole.now) l.initial.self.goal l.initial.solo.node (state_of l.initial.solo.whole.now);
}

abbrev pub decreases-turns : goal.decreases-turns
decreases-turns g l = potential (nodes_of l.initial.solo.whole.now) l.initial.self.goal l.initial.solo.node (state_of l.solo.whole.now)
