use Rattle.std.proofs.Common.{List, ℕ, ◌∙◌, ap, inl, refl}
use Rattle.std.proofs.lemmas.Result.{err_from_is_err_and}
use Rattle.sci_trace.specs.Pages.{play_page}
use Rattle.sci_serve.specs.Plays.{Plays}
use Rattle.sci_serve.proofs.RaceStops.{stops_read, stops_run, stops_search}
use Rattle.sci_serve.proofs.playing.played.Goals as goal

pub returns-in_err-script-clause-err : goal.returns-in_err-script-clause-err
returns-in_err-script-clause-err g c =
    let p = err_from_is_err_and c.from_residual.result c.from_residual.ensures.1 in
    rw (p.1, p.2) (stops_read (Plays c.args.limit c.args.most c.args.input.now) c.args.limit c.args.most c.in_err-script.field-0.0 c.args.input.now c.requires c.in_err-script.ensures)

pub returns-in_err-race-clause-err : goal.returns-in_err-race-clause-err
returns-in_err-race-clause-err g c =
    let script = c.in_ok-script.script in
    let p = err_from_is_err_and c.from_residual-in_err-race.result c.from_residual-in_err-race.ensures.1 in
    rw (p.1, p.2)
    (stops_run (Plays c.args.limit c.args.most c.args.input.now) c.args.limit c.args.most c.in_err-race.field-0.0 c.args.input.now script.size script.capacity script.openings.items script.steps.items c.in_ok-script.ensures c.in_err-race.ensures.refused)

pub returns-in_err-text-clause-err : goal.returns-in_err-text-clause-err
returns-in_err-text-clause-err g c =
    let script = c.in_ok-script.script in
    let p = err_from_is_err_and c.from_residual-in_err-text.result c.from_residual-in_err-text.ensures.1 in
    rw (p.1, p.2) (stops_search (Plays c.args.limit c.args.most c.args.input.now) c.args.limit c.args.most c.in_err-text.field-0.0 c.args.input.now c.in_ok-race.race
    (c.requires, script.size, script.capacity, script.openings.items, script.steps.items, c.in_ok-script.ensures, c.in_ok-race.ensures.race) c.in_err-text.ensures.refused)

pub returns-in_err-page-clause-err : goal.returns-in_err-page-clause-err
returns-in_err-page-clause-err g c =
    let p = err_from_is_err_and c.from_residual-in_err-page.result c.from_residual-in_err-page.ensures.1 in
    rw (p.1, p.2) (inl tt, refl)

pub returns-clause-ok : goal.returns-clause-ok
returns-clause-ok g c =
    let script = c.in_ok-script.script in (
      c.in_ok-race.race,
      (c.requires, script.size, script.capacity, script.openings.items, script.steps.items, c.in_ok-script.ensures, c.in_ok-race.ensures.race),
      c.in_ok-text.text.items,
      c.in_ok-text.ensures.text,
      c.in_ok-page.ensures ∙ ap (λ (t : List ℕ). play_page c.args.input.now t) c.deref.ensures.value,
    )
