use Rattle.std.proofs.Common.{◌≡◌, ℕ, ◌+◌, ◌-◌, ◌*◌, suc, ◌∷◌, slice_index, arith, ap, sym, ◌∙◌}
use Rattle.std.proofs.lemmas.Result.{IfOk-from_err}
use Rattle.sci_work.specs.Made.{ComesInWork}
use Rattle.sci_work.specs.Plain.{plain}
use Rattle.sci_work.proofs.Exits.{passed_on}
use Rattle.sci_work.proofs.Worked.{worked_not}
use Rattle.sci_work.proofs.stencils.worker.cell_before.Goals as goal

pub returns-then-tile-eq0 : goal.returns-then-tile-eq0
returns-then-tile-eq0 g c = record {
  cell = ap (λ (t : ℕ). slice_index (0 ∷ plain c.args.work.cells.now c.args.phase) (7 * t)) (sym c.if-tile-eq0.true);
  err = tt;
  worked = worked_not c.requires.ready;
}

pub returns : goal.returns
returns g c =
    let e = c.awaited.ensures in let tile = c.args.tile in
    let at : suc (7 * (tile - 1) + 6) ≡ 7 * tile = omega (arith, c.if-tile-eq0.false) in
    record {
      cell = c.in_ok-words.ensures.cells 6 (omega arith) ∙ ap (λ (i : ℕ). slice_index (0 ∷ plain c.args.work.cells.now c.args.phase) i) at;
      err = tt;
      worked = e.worked;
    }

pub returns-in_err-words : goal.returns-in_err-words
returns-in_err-words g c =
    let e = c.awaited.ensures in let r = c.from_residual in
    record { cell = IfOk-from_err r.result _ r.ensures.0; err = passed_on r.result _ ComesInWork r.ensures.1 c.in_err-words.ensures.err; worked = e.worked }
