use Rattle.std.proofs.Common.{◌∙◌, Bool, [], refl, sym, subst, append-nil}
use Rattle.std.proofs.lemmas.Result.{err_from_is_err_and}
use Rattle.sci_script.specs.Run.{EndsOpenBy}
use Rattle.sci_script.proofs.running.end_open.Goals as goal

pub returns-then-not-open-clause-ok : goal.returns-then-not-open-clause-ok
returns-then-not-open-clause-ok g c =
    let closed = sym c.open.ensures ∙ c.if-not-open.true in
    ([], subst (λ (b : Bool). EndsOpenBy b g.D.Desk.does c.args.words.now c.args.node c.args.desk.now [] c.args.desk.now) (sym closed) (refl, refl), sym (append-nil _))

pub returns-in_err-turn_text-in-Some-clause-err : goal.returns-in_err-turn_text-in-Some-clause-err
returns-in_err-turn_text-in-Some-clause-err g c =
    let p = err_from_is_err_and c.from_residual.result c.from_residual.ensures.1 in
    let h = c.in-Some.ensures.ended in
    rw (p.1, p.2) (sym c.if-not-open.ensures, (_, (h.0, h.1, h.2, h.3, c.in-Some.turn, h.4, h.5, refl)))

pub returns-in-None-clause-err : goal.returns-in-None-clause-err
returns-in-None-clause-err g c = (sym c.if-not-open.ensures, (refl, c.in-None.ensures.ended))
