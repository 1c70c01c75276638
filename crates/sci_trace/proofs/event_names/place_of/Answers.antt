use Rattle.std.proofs.Common.{◌≡◌, ◌∙◌, ◌<◌, ◌≤◌, ℕ, [], take, get_or, sym, subst}
use Rattle.sci_trace.specs.Events.{event_name}
use Rattle.sci_trace.specs.declared.event_names.TheConstants.{NAMES, LENGTHS}
use Rattle.sci_trace.proofs.Named.{is_named}
use Rattle.sci_trace.proofs.event_names.place_of.Goals as goal

pub returns-clause-within : goal.returns-clause-within
returns-clause-within c = subst (λ (n : ℕ). n < 35) (sym (c.from.ensures ∙ c.number.ensures)) (is_named c.args.event.now).within

pub returns-clause-short : goal.returns-clause-short
returns-clause-short c = subst (λ (n : ℕ). get_or LENGTHS n 0 ≤ 16) (sym (c.from.ensures ∙ c.number.ensures)) (is_named c.args.event.now).short

pub returns-clause-named : goal.returns-clause-named
returns-clause-named c = subst (λ (n : ℕ). take (get_or LENGTHS n 0) (get_or NAMES n []) ≡ event_name c.args.event.now) (sym (c.from.ensures ∙ c.number.ensures)) (is_named c.args.event.now).named
