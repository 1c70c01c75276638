use Rattle.std.proofs.Common.{rules, ◌+◌, slice_index, refl, arith}
use Rattle.sci_work.proofs.Words.{known_more, first_stays}
use Rattle.sci_work.proofs.stencils.tiles.opening.Goals as goal

pub loop-j-preserved : goal.loop-j-preserved
loop-j-preserved c =
    let was = c.loop-j.invariant in record {
      size = search rules;
      number = first_stays c.loop-j.words c.loop-j.j _ 1 was.number;
      done = known_more c.loop-j.words (λ i. slice_index c.args.cells.now (c.args.at + i)) c.loop-j.j _ was.size (omega arith) was.done refl;
    }
