use Rattle.std.proofs.Common.{◌∙◌, ap, sym}
use Rattle.sci_core.specs.declared.events.Event.{Event}
use Rattle.sci_port.specs.Way.{Way}
use Rattle.sci_ops.specs.Table.{may_adopt}
use Rattle.sci_ops.proofs.Staged.{allowed_in}
use Rattle.sci_ops.proofs.Carried.{carried, carried_with}
use Rattle.sci_ops.proofs.Took.{took_tag, no_tag, took_none, if_so, if_not, asked, goes_on, wait_goes_on}
use Rattle.sci_ops.proofs.turns.writing.purge.Goals as goal

pub tag-requires : goal.tag-requires
tag-requires g c = c.requires.node

pub returns-in_default : goal.returns-in_default
returns-in_default g c = record { calls = λ shown. no_tag c.in_default.ensures.gives; goes_on = λ shown. wait_goes_on }

pub go_on-requires : goal.go_on-requires
go_on-requires g c = record { allowed = allowed_in (g.P.Port.way c.tag.new.self) (Event.PurgeOne c.in-Some.found) _ _ (c.in-Some.ensures.same_step ∙ c.requires.step.1) (carried _ _ _ (sym c.if-is_valid.ensures) c.in-Some.ensures.form.0); fits = tt }

pub go_on-requires-then-may_adopt : goal.go_on-requires-then-may_adopt
go_on-requires-then-may_adopt g c = record { allowed = allowed_in (g.P.Port.way c.tag.new.self) (Event.Adopt c.in-Some.found) _ _ (c.in-Some.ensures.same_step ∙ c.requires.step.1) (carried_with _ _ _ _ (asked (λ n. may_adopt n c.in-Some.found) _ _ _ (c.node-me.ensures.value ∙ ap (λ (w : Way). w.node) (sym (c.in-Some.ensures.same_way))) c.if-may_adopt.ensures) c.in-Some.ensures.form.0); fits = tt }

pub returns-then-is_valid : goal.returns-then-is_valid
returns-then-is_valid g c = record { calls = λ shown. took_tag _ c.in-Some.ensures.gives (if_so _ _ _ (sym c.if-is_valid.ensures)) (c.go_on.ensures shown); goes_on = λ shown. goes_on (c.go_on.ensures shown) }

pub returns-then-may_adopt : goal.returns-then-may_adopt
returns-then-may_adopt g c = record { calls = λ shown. took_tag _ c.in-Some.ensures.gives (if_not _ _ _ (sym c.if-is_valid.ensures) ∙ if_so _ _ _ (asked (λ n. may_adopt n c.in-Some.found) _ _ _ c.node-me.ensures.value c.if-may_adopt.ensures)) (c.go_on-then-may_adopt.ensures shown); goes_on = λ shown. goes_on (c.go_on-then-may_adopt.ensures shown) }

pub returns-else-may_adopt : goal.returns-else-may_adopt
returns-else-may_adopt g c = record { calls = λ shown. took_tag _ c.in-Some.ensures.gives (if_not _ _ _ (sym c.if-is_valid.ensures) ∙ if_not _ _ _ (asked (λ n. may_adopt n c.in-Some.found) _ _ _ c.node-me.ensures.value c.if-may_adopt.ensures)) took_none; goes_on = λ shown. wait_goes_on }
