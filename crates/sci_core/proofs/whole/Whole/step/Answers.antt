use Rattle.std.proofs.Common.{◌∙◌, refl, sym, subst, Ok, None}
use Rattle.sci_core.specs.declared.events.Event.{Event}
use Rattle.sci_core.specs.declared.outcomes.Outcome.{Outcome}
use Rattle.sci_core.specs.Answers.{Answers}
use Rattle.sci_core.specs.Run.{KeepsLawful}
use Rattle.sci_core.specs.Whole.{nodes_of, state_of}
use Rattle.sci_core.proofs.Lawfully.{exchange_answers, has_row_of, looks, refused_keeps}
use Rattle.sci_core.proofs.whole.Whole.step.Goals as goal

pub returns-then-not-allows-clause-answers : goal.returns-then-not-allows-clause-answers
returns-then-not-allows-clause-answers g c = (sym c.allows.ensures.allowed ∙ c.if-not-allows.true, refl)

pub returns-then-not-allows-clause-lawful : goal.returns-then-not-allows-clause-lawful
returns-then-not-allows-clause-lawful g c = refused_keeps _ _ _ _ _ _ _ c.allows.ensures.lawful refl

pub exchange-requires-clause-allowed : goal.exchange-requires-clause-allowed
exchange-requires-clause-allowed g c = has_row_of _ _ _ _ (sym c.is_look.ensures ∙ c.if-is_look.false) (sym c.allows.ensures.allowed ∙ c.if-not-allows.false)

pub returns-then-is_look-clause-answers : goal.returns-then-is_look-clause-answers
returns-then-is_look-clause-answers g c =
    subst (λ (e : Event). Answers (nodes_of c.args.self.now) (state_of c.args.self.now) c.args.node e (Ok (Outcome.Done None)) (state_of c.look.new.self))
    (sym (looks c.args.event (sym c.is_look.ensures ∙ c.if-is_look.true))) (refl, c.look.ensures.looked)

pub returns-then-is_look-clause-lawful : goal.returns-then-is_look-clause-lawful
returns-then-is_look-clause-lawful g c =
    subst (λ (e : Event). KeepsLawful (nodes_of c.args.self.now) (g.K.Keeps.fits c.args.self.now.keep c.args.self.now.number) (state_of c.args.self.now) c.args.node e (Ok (Outcome.Done None)) (state_of c.look.new.self))
    (sym (looks c.args.event (sym c.is_look.ensures ∙ c.if-is_look.true))) c.look.ensures.keeps

pub returns-else-is_look-clause-answers : goal.returns-else-is_look-clause-answers
returns-else-is_look-clause-answers g c = exchange_answers _ _ _ _ _ _ (sym c.is_look.ensures ∙ c.if-is_look.false) c.exchange.ensures.outcome

pub returns-else-is_look-clause-lawful : goal.returns-else-is_look-clause-lawful
returns-else-is_look-clause-lawful g c = c.exchange.ensures.keeps
