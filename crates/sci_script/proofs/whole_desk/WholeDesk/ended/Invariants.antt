use Rattle.std.proofs.Common.{◌≡◌, ◌+◌, ◌*◌, ◌≤◌, ℕ, true}
use Rattle.sci_ops.specs.declared.answers.Turn.{Turn}
use Rattle.sci_script.specs.Event.{Turned}
use Rattle.sci_script.specs.Run.{Repeats}
use Rattle.sci_script.specs.Shared.{shared_is_open, shared_does}
use Rattle.sci_script.specs.Wholes.{shared_of}
use Rattle.sci_script.proofs.AloneCalls.{Stands, left}
use Rattle.sci_script.proofs.whole_desk.WholeDesk.ended.Given as goal

-- the turns so far each moved, and with those that are left they are no more than were left at first
abbrev pub invariant-turns : goal.invariant-turns
invariant-turns g l = record {
  size : l.self.size ≡ l.initial.self.size;
  turns : (k : ℕ) × (l.steps ≡ l.initial.steps + k) × Repeats shared_does (Turned l.node Turn.Moved) k (shared_of l.initial.self) (shared_of l.self);
  stands : Stands (λ line. Unit {0}) l.node (shared_of l.self) ((shared_of l.self).nodes l.node).call;
  cost : l.steps + left l.node (shared_of l.self) ((shared_of l.self).nodes l.node).call ≤ l.initial.steps + 2 * (3 * l.initial.self.size.nodes + 16);
  others : (i : ℕ) → (i ≡ l.node → ⊥) → (shared_of l.self).nodes i ≡ (shared_of l.initial.self).nodes i;
}

abbrev pub decreases-turns : goal.decreases-turns
decreases-turns g l = left l.node (shared_of l.self) ((shared_of l.self).nodes l.node).call
