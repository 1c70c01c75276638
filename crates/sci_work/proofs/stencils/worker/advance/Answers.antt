use Rattle.std.proofs.Common.{rules, ◌≡◌, ℕ, ◌<◌, ◌≤◌, ◌+◌, ◌*◌, ◌%◌, List, [], ◌∷◌, ◌++◌, length, ap, arith, sym, subst, ◌∙◌}
use Rattle.std.proofs.lemmas.Result.{IfErr-weaker, IfOk-from_err}
use Rattle.sci_work.specs.Made.{ComesInCall, ComesInWork}
use Rattle.sci_work.specs.Stencil.{FitsStencil}
use Rattle.sci_work.proofs.Exits.{passed_on}
use Rattle.sci_work.proofs.Making.{on_ok_then}
use Rattle.sci_work.proofs.Refusing.{of_call}
use Rattle.sci_work.proofs.Showing.{advanced_holds, fitting, work_again}
use Rattle.sci_work.proofs.Tiles.{tile_is}
use Rattle.sci_work.proofs.Worked.{may_call, worked_then, worked_still}
use Rattle.sci_work.proofs.stencils.worker.advance.Goals as goal

pub returns-in_err-own : goal.returns-in_err-own
returns-in_err-own g c =
    let own = c.awaited.ensures in let r = c.from_residual in
    record { err = passed_on r.result _ ComesInWork r.ensures.1 c.in_err-own.ensures.err; worked = ([], own.worked, IfOk-from_err r.result _ r.ensures.0) }

pub cell_before-requires-clause-work : goal.cell_before-requires-clause-work
cell_before-requires-clause-work g c κs within = let own = c.awaited.ensures in let work = c.args.work in
    work_again g.B.Keep.Keeps.fits work.cells.now work.phases work.tiles _ _ _ _ own.worked.same_fact own.worked.same_way c.requires.work

pub returns-in_err-left : goal.returns-in_err-left
returns-in_err-left g c =
    let own = c.awaited.ensures in let left = c.cell_before.ensures in let r = c.from_residual-in_err-left in
    record {
      err = passed_on r.result _ ComesInWork r.ensures.1 c.in_err-left.ensures.err;
      worked = ([], worked_then own.worked left.worked, IfOk-from_err r.result _ r.ensures.0);
    }

pub cell_behind-requires-clause-work : goal.cell_behind-requires-clause-work
cell_behind-requires-clause-work g c κs within =
    let own = c.awaited.ensures in let left = c.cell_before.ensures in let work = c.args.work in
    work_again g.B.Keep.Keeps.fits work.cells.now work.phases work.tiles _ _ _ _ (left.worked.same_fact ∙ own.worked.same_fact) (left.worked.same_way ∙ own.worked.same_way) c.requires.work

pub returns-in_err-right : goal.returns-in_err-right
returns-in_err-right g c =
    let own = c.awaited.ensures in let left = c.cell_before.ensures in let right = c.cell_behind.ensures in let r = c.from_residual-in_err-right in
    record {
      err = passed_on r.result _ ComesInWork r.ensures.1 c.in_err-right.ensures.err;
      worked = ([], worked_then (worked_then own.worked left.worked) right.worked, IfOk-from_err r.result _ r.ensures.0);
    }

pub write_line-requires-clause-ready : goal.write_line-requires-clause-ready
write_line-requires-clause-ready g c κs within = may_call c.cell_behind.ensures.worked.ready

pub write_line-requires-clause-line : goal.write_line-requires-clause-line
write_line-requires-clause-line g c κs within =
    let same = c.cell_behind.ensures.worked.same_way ∙ c.cell_before.ensures.worked.same_way ∙ c.awaited.ensures.worked.same_way in
    let low = c.requires.tile in let lines = c.requires.work.lines_are in
    subst (λ w. c.line_at-line.result < w.lines) (sym same) (omega (arith, low, lines, c.line_at-line.ensures))

pub write_line-requires-clause-fits : goal.write_line-requires-clause-fits
write_line-requires-clause-fits g c κs within =
    let work = c.requires.work in let cells = c.args.work.cells.now in let tile = c.args.tile in let phase = c.args.phase in
    let whole = work.whole in
    let same = c.cell_behind.ensures.worked.same_fact ∙ c.cell_before.ensures.worked.same_fact ∙ c.awaited.ensures.worked.same_fact in
    let next = c.advanced.result in
    let number = c.in_ok-own.ensures.number in
    let holds = advanced_holds cells phase tile c.in_ok-left.left c.in_ok-own.own c.in_ok-right.right next c.in_ok-own.ensures.cells c.in_ok-left.ensures.cell c.in_ok-right.ensures.cell (omega arith) c.advanced.ensures.cells in
    let fits = fitting cells c.args.work.phases tile ((phase + 1) % 2) next (phase + 1) (omega arith) (omega arith) (omega arith) (omega (arith, c.advanced.ensures.phase)) holds in
    let line = c.line_at-line.result in
    let there = subst (λ (l : ℕ). FitsStencil cells c.args.work.phases l next) (sym c.line_at-line.ensures) fits in
    subst (λ k. g.B.Keep.Keeps.fits k line next) (sym same) (work.takes line next there)

pub line_at-line-requires : goal.line_at-line-requires
line_at-line-requires g c = let low = c.requires.tile in let few = c.requires.work.few in omega (arith, low, few)

pub returns : goal.returns
returns g c =
    let own = c.awaited.ensures in let left = c.cell_before.ensures in let right = c.cell_behind.ensures in let last = c.write_line.ensures in
    let cells = c.args.work.cells.now in let tile = c.args.tile in let phase = c.args.phase in let next = c.advanced.result in let whole = c.requires.work.whole in
    let inside : 7 * tile + 7 ≤ length cells = let low = c.requires.tile in omega (arith, whole, low) in
    let holds = advanced_holds cells phase tile c.in_ok-left.left c.in_ok-own.own c.in_ok-right.right next c.in_ok-own.ensures.cells c.in_ok-left.ensures.cell c.in_ok-right.ensures.cell inside c.advanced.ensures.cells in
    let eight : length next ≡ 8 = search rules in
    let is = tile_is cells (phase + 1) tile next eight inside (omega (arith, c.advanced.ensures.phase, c.in_ok-own.ensures.number)) holds in
    record {
      err = IfErr-weaker c.write_line.result ComesInCall ComesInWork of_call last.err;
      worked = (
        _,
        worked_then (worked_then (worked_then own.worked left.worked) right.worked) (worked_still right.worked.ready last.still.1),
        on_ok_then c.write_line.result (λ wrote. ap (λ (ws : List (ℕ × List ℕ)). ws ++ []) wrote ∙ ap (λ (l : ℕ). (l, next) ∷ []) c.line_at-line.ensures ∙ ap (λ (w : List ℕ). (2 * tile + (phase + 1) % 2, w) ∷ []) is) last.still.2,
      );
    }
