use Rattle.std.proofs.Common.{◌≡◌, ℕ, ◌+◌, ◌*◌, slice_index, arith, ap, sym, ◌∙◌}
use Rattle.std.proofs.lemmas.Result.{IfOk-from_err}
use Rattle.sci_work.specs.Made.{ComesInWork}
use Rattle.sci_work.specs.Plain.{plain}
use Rattle.sci_work.proofs.Exits.{passed_on}
use Rattle.sci_work.proofs.Worked.{worked_not}
use Rattle.sci_work.proofs.Showing.{past}
use Rattle.sci_work.proofs.stencils.worker.cell_behind.Goals as goal

pub returns-then-tile-work : goal.returns-then-tile-work
returns-then-tile-work g c = record {
  cell = sym (past c.args.work.cells.now c.args.phase (7 * c.args.tile + 7) (let w = c.requires.work.whole in let last = c.if-tile-work.true in omega (arith, w, last)));
  err = tt;
  worked = worked_not c.requires.ready;
}

pub returns : goal.returns
returns g c =
    let e = c.awaited.ensures in let tile = c.args.tile in
    let at : 7 * (tile + 1) + 0 ≡ 7 * tile + 7 = omega arith in
    record {
      cell = c.in_ok-words.ensures.cells 0 (omega arith) ∙ ap (λ (i : ℕ). slice_index (plain c.args.work.cells.now c.args.phase) i) at;
      err = tt;
      worked = e.worked;
    }

pub returns-in_err-words : goal.returns-in_err-words
returns-in_err-words g c =
    let e = c.awaited.ensures in let r = c.from_residual in
    record { cell = IfOk-from_err r.result _ r.ensures.0; err = passed_on r.result _ ComesInWork r.ensures.1 c.in_err-words.ensures.err; worked = e.worked }
