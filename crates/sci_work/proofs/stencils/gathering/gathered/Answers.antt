use Rattle.std.proofs.Common.{rules, ℕ, List, ◌*◌, ◌%◌, arith, ◌∙◌, ap, subst, ◌++◌, sym}
use Rattle.std.proofs.lemmas.List.{take_all}
use Rattle.atomic_table.proofs.Lists.{at_index}
use Rattle.sci_work.proofs.Plain.{length-plain}
use Rattle.sci_work.proofs.Sharing.{seven_more}
use Rattle.sci_work.specs.Plain.{plain}
use Rattle.sci_work.specs.Shares.{IsShare}
use Rattle.sci_work.proofs.stencils.gathering.gathered.Goals as goal

pub tile_in-requires-clause-share : goal.tile_in-requires-clause-share
tile_in-requires-clause-share c =
    let P = plain c.args.work.cells.now c.args.work.phases in
    let at = at_index c.args.shares.now c.from.result c.index-shares-from.result (search rules) c.index-shares-from.is in
    let h = c.requires.shares c.from.result c.index-shares-from.result at in
    let mine = subst (λ (k : ℕ). IsShare P c.args.work.nodes k c.args.work.tiles c.index-shares-from.result.items) c.from.ensures h in
    subst (λ (s : List ℕ). IsShare P c.args.work.nodes (c.loop-tile.tile % c.args.work.nodes) c.args.work.tiles s) (sym c.deref.ensures.value) mine

pub loop-tile-preserved : goal.loop-tile-preserved
loop-tile-preserved c =
    let cells = c.args.work.cells.now in let P = plain cells c.args.work.phases in
    let n = length-plain cells c.args.work.phases in let w = c.requires.whole in
    let s = c.tile_in.result.now in
    c.in_ok-extend_from_slice.ensures.items ∙ ap (λ xs. xs ++ s) c.loop-tile.invariant ∙ seven_more P s c.loop-tile.tile (omega arith) c.tile_in.ensures.size c.tile_in.ensures.cells

pub returns-clause-ok : goal.returns-clause-ok
returns-clause-ok c =
    let cells = c.args.work.cells.now in let phases = c.args.work.phases in
    let n = length-plain cells phases in let w = c.requires.whole in
    c.loop-tile.invariant ∙ take_all (7 * c.loop-tile.tile) (plain cells phases) (omega arith)
