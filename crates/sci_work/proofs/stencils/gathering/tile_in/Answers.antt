use Rattle.std.proofs.Common.{arith}
use Rattle.sci_work.proofs.Sharing.{inside_share}
use Rattle.sci_work.specs.Plain.{plain}
use Rattle.sci_work.proofs.stencils.gathering.tile_in.Goals as goal

pub slice_bounds-result-end : goal.slice_bounds-result-end
slice_bounds-result-end c =
    let h = inside_share (plain c.args.work.cells.now c.args.work.phases) c.args.work.nodes c.args.work.tiles c.args.share.now c.args.tile c.requires.share c.requires.tile in
    omega (arith, h, c.from-at.ensures)
