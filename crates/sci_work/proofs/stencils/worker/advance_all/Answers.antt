use Rattle.std.proofs.Common.{◌+◌, ◌∙◌, ℕ, List, arith, refl, subst}
use Rattle.std.proofs.Math.Nat.{add-mod_right, mod-eq_of_lt}
use Rattle.std.proofs.lemmas.Result.{IfOk-from_err}
use Rattle.sci_work.specs.Made.{ComesInWork}
use Rattle.sci_work.specs.Workers.{HasWorked}
use Rattle.sci_work.proofs.Exits.{passed_on}
use Rattle.sci_work.proofs.Tiles.{first_tile, last_tile, tile_more}
use Rattle.sci_work.proofs.Worked.{worked_not, worked_then}
use Rattle.sci_work.proofs.stencils.worker.advance_all.Goals as goal

pub loop-tile-init : goal.loop-tile-init
loop-tile-init g c =
    let work = c.args.work in let low = c.requires.nodes.0 in
    record {
      worked = subst (λ (ws : List (ℕ × List ℕ)). HasWorked c.args.node.now.keeps ws g.B.Bank.way g.B.Bank.keep g.B.Bank.at_step g.B.Bank.gives g.B.Bank.readies g.B.Bank.receipts c.args.bank.now c.args.node.now c.args.bank.now) (first_tile work.cells.now work.nodes c.args.number (c.args.phase + 1) low) (worked_not c.requires.ready);
      own = mod-eq_of_lt low;
      near = omega (arith, low);
    }

pub advance-requires-clause-work : goal.advance-requires-clause-work
advance-requires-clause-work g c κs within = rw (c.loop-tile.invariant.worked.same_fact, c.loop-tile.invariant.worked.same_way) c.requires.work

pub loop-tile-preserved : goal.loop-tile-preserved
loop-tile-preserved g c =
    let was = c.loop-tile.invariant in let e = c.in_ok-advance.ensures in let tile = c.loop-tile.tile in let n = c.args.work.nodes in
    record {
      worked = subst (λ (ws : List (ℕ × List ℕ)). HasWorked c.args.node.now.keeps ws g.B.Bank.way g.B.Bank.keep g.B.Bank.at_step g.B.Bank.gives g.B.Bank.readies g.B.Bank.receipts c.args.bank.now c.advance.new.node c.advance.new.bank)
          (tile_more c.args.work.cells.now n c.args.number (c.args.phase + 1) tile _ _ e.worked.0 c.requires.nodes.0 was.own e.worked.2 refl refl) (worked_then was.worked e.worked.1);
      own = add-mod_right tile n ∙ was.own;
      near = omega (arith, c.loop-tile-test.true);
    }

pub returns-in_err-advance : goal.returns-in_err-advance
returns-in_err-advance g c =
    let was = c.loop-tile.invariant in let e = c.advance.ensures in let r = c.from_residual in
    record { err = passed_on r.result _ ComesInWork r.ensures.1 c.in_err-advance.ensures.err; worked = (_, worked_then was.worked e.worked.1, IfOk-from_err r.result _ r.ensures.0) }

pub returns : goal.returns
returns g c =
    let was = c.loop-tile.invariant in let work = c.args.work in
    record { err = tt; worked = (_, was.worked, last_tile work.cells.now work.nodes c.args.number (c.args.phase + 1) c.loop-tile.tile work.tiles c.requires.nodes.0 was.own (omega (arith, c.loop-tile-test.false)) was.near) }
