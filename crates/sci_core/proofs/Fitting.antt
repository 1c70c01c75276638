-- Any words fit where nothing is asked of them.
use Rattle.std.proofs.Common.{List, ℕ, Some, None, All, get_or}
use Rattle.sci_core.specs.declared.events.Event.{Event}
use Rattle.sci_core.specs.Answers.{FitsEvent}

pub any_event_fits : (e : Event) → FitsEvent (λ _. Unit {0}) e
any_event_fits (Event.Written (Some words)) = tt
any_event_fits (Event.Written None) = tt
any_event_fits _ = tt

pub any_events_fit : (es : List (ℕ × Event)) → All (λ e. FitsEvent (λ _. Unit {0}) e.1) es
any_events_fit es k d h = any_event_fits (get_or es k d).1
