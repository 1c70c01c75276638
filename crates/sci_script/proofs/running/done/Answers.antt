use Rattle.std.proofs.Common.{refl, sym, ◌∙◌}
use Rattle.std.proofs.lemmas.Result.{err_from_is_err_and}
use Rattle.sci_script.proofs.running.done.Goals as goal

pub returns-then-not-open-clause-err : goal.returns-then-not-open-clause-err
returns-then-not-open-clause-err g c = (refl, sym c.open.ensures ∙ c.if-not-open.true, refl)

pub returns-in_err-turn_text-in-Some-clause-err : goal.returns-in_err-turn_text-in-Some-clause-err
returns-in_err-turn_text-in-Some-clause-err g c =
    let p = err_from_is_err_and c.from_residual.result c.from_residual.ensures.1 in
    let h = c.in-Some.ensures.ended in
    rw (p.1, p.2) (sym c.if-not-open.ensures, h.0, h.1, h.2, h.3, c.in-Some.turn, h.4, h.5)

pub returns-in-None-clause-err : goal.returns-in-None-clause-err
returns-in-None-clause-err g c = (refl, (sym c.if-not-open.ensures, c.in-None.ensures.ended))
