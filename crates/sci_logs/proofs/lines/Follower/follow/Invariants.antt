use Rattle.std.proofs.Common.{◌≡◌, take}
use Rattle.sci_logs.specs.Steps.{lines_of}
use Rattle.sci_logs.specs.Runs.{IsRun}
use Rattle.sci_logs.proofs.lines.Follower.follow.Given as goal

abbrev pub invariant-loop-place : goal.invariant-loop-place
invariant-loop-place l = record {
  size : l.self.size ≡ l.initial.self.size;
  run : IsRun l.initial.self.size.nodes (lines_of l.initial.self) (take l.place l.entries) (lines_of l.self);
}
