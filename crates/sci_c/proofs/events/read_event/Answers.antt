use Rattle.std.proofs.Common.{sym, subst, ◌∙◌}
use Rattle.sci_core.specs.declared.events.Event.{Event}
use Rattle.sci_c.specs.Events.{IsEvent}
use Rattle.sci_c.proofs.Meaning.{is_event_meant, not_both}
use Rattle.sci_c.proofs.events.read_event.Goals as goal

pub returns-then-is_event-clause-one : goal.returns-then-is_event-clause-one
returns-then-is_event-clause-one c =
    λ s t h k. sym (is_event_meant c.args.numbers.now c.tag_meant.result s c.tag_meant.ensures h) ∙ is_event_meant c.args.numbers.now c.tag_meant.result t c.tag_meant.ensures k

pub returns-else-is_event-clause-event : goal.returns-else-is_event-clause-event
returns-else-is_event-clause-event c =
    λ s h. not_both c.is_event.result c.if-is_event.false (c.is_event.ensures.1 (subst (λ (u : Event). IsEvent c.args.numbers.now u) (sym (c.event_meant-event.ensures ∙ is_event_meant c.args.numbers.now c.tag_meant.result s c.tag_meant.ensures h)) h))

pub returns-else-is_event-clause-one : goal.returns-else-is_event-clause-one
returns-else-is_event-clause-one c =
    λ s t h k. sym (is_event_meant c.args.numbers.now c.tag_meant.result s c.tag_meant.ensures h) ∙ is_event_meant c.args.numbers.now c.tag_meant.result t c.tag_meant.ensures k
