use Rattle.std.proofs.Common.{inl, refl}
use Rattle.std.proofs.lemmas.Result.{err_from_is_err_and}
use Rattle.sci_serve.specs.Races.{Races}
use Rattle.sci_serve.proofs.RaceStops.{stops_read, stops_run, stops_search}
use Rattle.sci_serve.proofs.racing.report.Goals as goal

pub returns-in_err-script-clause-err : goal.returns-in_err-script-clause-err
returns-in_err-script-clause-err g c =
    let p = err_from_is_err_and c.from_residual.result c.from_residual.ensures.1 in
    rw (p.1, p.2) (stops_read (Races c.args.limit c.args.most c.args.input.now) c.args.limit c.args.most c.in_err-script.field-0.0 c.args.input.now c.requires c.in_err-script.ensures)

pub returns-in_err-race-clause-err : goal.returns-in_err-race-clause-err
returns-in_err-race-clause-err g c =
    let script = c.in_ok-script.script in
    let p = err_from_is_err_and c.from_residual-in_err-race.result c.from_residual-in_err-race.ensures.1 in
    rw (p.1, p.2) (stops_run (Races c.args.limit c.args.most c.args.input.now) c.args.limit c.args.most c.in_err-race.field-0.0 c.args.input.now script.size script.capacity script.openings.items script.steps.items c.in_ok-script.ensures c.in_err-race.ensures.refused)

pub returns-in_err-report-clause-err : goal.returns-in_err-report-clause-err
returns-in_err-report-clause-err g c =
    let script = c.in_ok-script.script in
    let p = err_from_is_err_and c.from_residual-in_err-report.result c.from_residual-in_err-report.ensures.1 in
    rw (p.1, p.2) (stops_search (Races c.args.limit c.args.most c.args.input.now) c.args.limit c.args.most c.in_err-report.field-0.0 c.args.input.now c.in_ok-race.race
    (c.requires, script.size, script.capacity, script.openings.items, script.steps.items, c.in_ok-script.ensures, c.in_ok-race.ensures.race) c.in_err-report.ensures.refused)

pub returns-in_err-text-clause-err : goal.returns-in_err-text-clause-err
returns-in_err-text-clause-err g c =
    let p = err_from_is_err_and c.from_residual-in_err-text.result c.from_residual-in_err-text.ensures.1 in
    rw (p.1, p.2) (inl tt, refl)

pub returns-clause-ok : goal.returns-clause-ok
returns-clause-ok g c =
    let script = c.in_ok-script.script in
    let report = c.in_ok-report.report in (
      c.in_ok-race.race,
      (c.requires, script.size, script.capacity, script.openings.items, script.steps.items, c.in_ok-script.ensures, c.in_ok-race.ensures.race),
      report.states,
      report.outcomes.items,
      record {
        listed = c.in_ok-report.ensures.outcomes;
        found = c.in_ok-report.ensures.states.0;
        reached = c.in_ok-report.ensures.states.1;
        counted = c.in_ok-report.ensures.states.2;
        few = c.in_ok-report.ensures.few;
      },
      c.in_ok-text.ensures,
    )
