use Rattle.std.proofs.Common.{◌≡◌, ◌*◌, take, vec_items}
use Rattle.sci_work.specs.Plain.{plain}
use Rattle.sci_work.proofs.stencils.gathering.gathered.Given as goal

abbrev pub invariant-loop-tile : goal.invariant-loop-tile
invariant-loop-tile l = vec_items l.all ≡ take (7 * l.tile) (plain l.work.cells.now l.work.phases)
