use Rattle.std.proofs.lemmas.Result.{IfOk-weaker, IfErr-weaker, err_from_is_err_and}
use Rattle.sci_serve.proofs.Declining.{stops_in_run, stops_reading_settings}
use Rattle.sci_serve.proofs.SettingsLimits.{settings_within}
use Rattle.sci_serve.proofs.running.run.Goals as goal

pub shown_text-requires-after_bounds : goal.shown_text-requires-after_bounds
shown_text-requires-after_bounds g c κs within = settings_within c.args.input.now c.in_ok-settings.settings c.in_ok-settings.ensures.ok.1

pub returns-in_err-settings-clause-err : goal.returns-in_err-settings-clause-err
returns-in_err-settings-clause-err g c =
    let p = err_from_is_err_and c.from_residual.result c.from_residual.ensures.1 in
    rw (p.1, p.2) (stops_reading_settings c.args.shown c.in_err-settings.field-0.0 c.args.input.now c.requires c.in_err-settings.ensures.err)

pub returns-clause-ok : goal.returns-clause-ok
returns-clause-ok g c =
    let settings = c.in_ok-settings.settings in
    let (text, read) = c.in_ok-settings.ensures.ok in
    IfOk-weaker c.shown_text.result _ _ (λ result is. (settings, (c.requires, text, read), is)) c.shown_text.ensures.ok

pub returns-clause-err : goal.returns-clause-err
returns-clause-err g c =
    let settings = c.in_ok-settings.settings in
    let (text, read) = c.in_ok-settings.ensures.ok in
    IfErr-weaker c.shown_text.result _ _ (λ e h. stops_in_run c.args.shown e c.args.input.now settings (c.requires, text, read) h) c.shown_text.ensures.err
