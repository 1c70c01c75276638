use Rattle.std.proofs.Common.{rules, ◌≡◌, ◌*◌, ◌∙◌, ℕ, List, length, arith, subst}
use Rattle.std.proofs.Math.Nat.{add-mod_right, mod-eq_of_lt}
use Rattle.std.proofs.lemmas.Result.{IfOk-from_err}
use Rattle.sci_work.specs.Made.{ComesInWork}
use Rattle.sci_work.proofs.Exits.{passed_on}
use Rattle.sci_work.proofs.Refusing.{of_call}
use Rattle.sci_work.proofs.Showing.{opens}
use Rattle.sci_work.specs.Workers.{HasWorked}
use Rattle.sci_work.proofs.Tiles.{first_tile, last_tile, opening_is, tile_more}
use Rattle.sci_work.proofs.Worked.{may_call, worked_not, worked_then, worked_still}
use Rattle.sci_work.proofs.stencils.worker.open_all.Goals as goal

pub loop-tile-init : goal.loop-tile-init
loop-tile-init g c =
    let work = c.args.work in let low = c.requires.nodes.0 in
    record {
      worked = subst (λ (ws : List (ℕ × List ℕ)). HasWorked c.args.node.now.keeps ws g.B.Bank.way g.B.Bank.keep g.B.Bank.at_step g.B.Bank.gives g.B.Bank.readies g.B.Bank.receipts c.args.bank.now c.args.node.now c.args.bank.now) (first_tile work.cells.now work.nodes c.args.number 0 low) (worked_not c.requires.ready);
      own = mod-eq_of_lt low;
      near = omega (arith, low);
    }

pub write_line-requires-clause-ready : goal.write_line-requires-clause-ready
write_line-requires-clause-ready g c κs within = may_call c.loop-tile.invariant.worked.ready

pub write_line-requires-clause-fits : goal.write_line-requires-clause-fits
write_line-requires-clause-fits g c κs within =
    let work = c.requires.work in let whole = work.whole in
    rw c.loop-tile.invariant.worked.same_fact (work.takes _ _ (opens c.args.work.cells.now c.args.work.phases c.loop-tile.tile c.opening-words.result (omega arith) (omega arith) c.opening-words.ensures.phase (rw c.from.ensures at c.opening-words.ensures.cells)))

pub returns-in_err-write_line : goal.returns-in_err-write_line
returns-in_err-write_line g c =
    let was = c.loop-tile.invariant in let e = c.write_line.ensures in let r = c.from_residual in
    record {
      err = passed_on r.result _ ComesInWork r.ensures.1 (of_call _ c.in_err-write_line.ensures.err);
      worked = (_, worked_then was.worked (worked_still was.worked.ready e.still.1), IfOk-from_err r.result _ r.ensures.0);
    }

pub loop-tile-preserved : goal.loop-tile-preserved
loop-tile-preserved g c =
    let was = c.loop-tile.invariant in let e = c.in_ok-write_line.ensures in let tile = c.loop-tile.tile in let words = c.opening-words.result in
    let cells = c.args.work.cells.now in let n = c.args.work.nodes in let whole = c.requires.work.whole in let low = c.requires.nodes.0 in
    let eight : length words ≡ 8 = search rules in
    let is = opening_is cells tile words eight (omega (arith, whole, c.loop-tile-test.true)) c.opening-words.ensures.phase (rw c.from.ensures at c.opening-words.ensures.cells) in
    record {
      worked = subst (λ (ws : List (ℕ × List ℕ)). HasWorked c.args.node.now.keeps ws g.B.Bank.way g.B.Bank.keep g.B.Bank.at_step g.B.Bank.gives g.B.Bank.readies g.B.Bank.receipts c.args.bank.now c.write_line.new.node c.write_line.new.bank)
          (tile_more cells n c.args.number 0 tile (2 * tile) words e.still.0 low was.own e.still.2 (omega arith) is) (worked_then was.worked (worked_still was.worked.ready e.still.1));
      own = add-mod_right tile n ∙ was.own;
      near = omega (arith, c.loop-tile-test.true);
    }

pub returns : goal.returns
returns g c =
    let was = c.loop-tile.invariant in let work = c.args.work in
    record { err = tt; worked = (_, was.worked, last_tile work.cells.now work.nodes c.args.number 0 c.loop-tile.tile work.tiles c.requires.nodes.0 was.own (omega (arith, c.loop-tile-test.false)) was.near) }
