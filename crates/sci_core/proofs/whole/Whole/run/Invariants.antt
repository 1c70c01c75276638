use Rattle.std.proofs.Common.{◌≤◌, take}
use Rattle.sci_core.specs.Run.{Runs}
use Rattle.sci_core.specs.Whole.{nodes_of, state_of, IsSameLine}
use Rattle.sci_core.proofs.whole.Whole.run.Given as goal

abbrev pub invariant-loop-place : goal.invariant-loop-place
invariant-loop-place g l = record {
  same : IsSameLine l.initial.self l.self;
  runs : Runs (nodes_of l.initial.self) (g.K.Keeps.fits l.initial.self.keep l.initial.self.number) (state_of l.initial.self) (take l.place l.events) l.done (state_of l.self);
  few : l.done ≤ l.place;
}
