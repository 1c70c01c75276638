use Rattle.std.proofs.Common.{ℕ, ◌%◌, subst, arith}
use Rattle.std.proofs.lemmas.Result.{IfOk-from_err}
use Rattle.sci_work.specs.Made.{ComesInWork}
use Rattle.sci_work.specs.Stencil.{FitsStencil}
use Rattle.sci_work.proofs.Exits.{passed_on}
use Rattle.sci_work.proofs.Refusing.{of_call}
use Rattle.sci_work.proofs.Showing.{shown}
use Rattle.sci_work.proofs.Worked.{may_call, worked_still}
use Rattle.sci_work.proofs.stencils.worker.awaited.Goals as goal

pub load_until-requires-clause-ready : goal.load_until-requires-clause-ready
load_until-requires-clause-ready g c κs within = may_call c.requires.ready

pub line_at-line-requires : goal.line_at-line-requires
line_at-line-requires g c = let low = c.requires.tile in let few = c.requires.work.few in omega (arith, low, few)

pub load_until-requires-clause-line : goal.load_until-requires-clause-line
load_until-requires-clause-line g c κs within = let low = c.requires.tile in let lines = c.requires.work.lines_are in omega (arith, low, lines, c.line_at-line.ensures)

pub returns-in_err-words : goal.returns-in_err-words
returns-in_err-words g c =
    let e = c.load_until.ensures in let r = c.from_residual in
    let b = worked_still c.requires.ready e.still in
    record {
      number = IfOk-from_err r.result _ r.ensures.0;
      cells = IfOk-from_err r.result _ r.ensures.0;
      err = passed_on r.result _ ComesInWork r.ensures.1 (of_call _ c.in_err-words.ensures.err);
      worked = b;
    }

pub returns-then-words-number : goal.returns-then-words-number
returns-then-words-number g c =
    let e = c.load_until.ensures in let work = c.requires.work in
    let cells = c.args.work.cells.now in let phases = c.args.work.phases in let line = c.line_at-line.result in let words = c.in_ok-words.words in
    let b = worked_still c.requires.ready e.still in
    let there = subst (λ (l : ℕ). FitsStencil cells phases l words) c.line_at-line.ensures (work.gives line words c.in_ok-words.ensures.fits) in
    record {
      number = c.if-words-number.true;
      cells = shown cells phases c.args.tile (c.args.phase % 2) words c.args.phase (omega arith) there c.if-words-number.true;
      err = tt;
      worked = b;
    }

pub returns : goal.returns
returns g c =
    let e = c.load_until.ensures in
    let b = worked_still c.requires.ready e.still in
    record { number = tt; cells = tt; err = tt; worked = b }
