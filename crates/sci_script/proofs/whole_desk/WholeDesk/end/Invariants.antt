use Rattle.std.proofs.Common.{◌≡◌, ◌+◌, ◌*◌, ◌<◌, ◌≤◌, ℕ, false, None, get_or, is_some, length}
use Rattle.sci_script.specs.Resting.{AreAtRest, EndsCalls}
use Rattle.sci_script.specs.Shared.{shared_is_open}
use Rattle.sci_script.specs.Wholes.{shared_of}
use Rattle.sci_script.proofs.whole_desk.WholeDesk.end.Given as goal

-- the calls of the nodes so far have ended, one after another
abbrev pub invariant-loop-number : goal.invariant-loop-number
invariant-loop-number g l = record {
  size : l.desk.size ≡ l.initial.desk.size;
  count : length l.answers ≡ length l.initial.answers;
  rest : AreAtRest (shared_of l.desk);
  ends : (turns : ℕ) × (l.steps ≡ l.initial.steps + turns) × EndsCalls l.number (shared_of l.initial.desk) turns l.answers (shared_of l.desk);
  answered : (i : ℕ) → i < l.number → is_some (get_or l.answers i None) ≡ shared_is_open (shared_of l.initial.desk) i;
  left : (i : ℕ) → l.number ≤ i → (shared_of l.desk).nodes i ≡ (shared_of l.initial.desk).nodes i;
  closed : (i : ℕ) → i < l.number → shared_is_open (shared_of l.desk) i ≡ false;
  bound : l.steps ≤ l.initial.steps + l.number * (2 * (3 * l.initial.desk.size.nodes + 16));
}
