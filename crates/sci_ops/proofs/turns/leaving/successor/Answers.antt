use Rattle.std.proofs.Common.{◌∙◌, ap, sym}
use Rattle.sci_core.specs.declared.events.Event.{Event}
use Rattle.sci_port.specs.Way.{Way}
use Rattle.sci_ops.specs.Table.{is_behind}
use Rattle.sci_ops.proofs.Staged.{allowed_in}
use Rattle.sci_ops.proofs.Carried.{carried_with}
use Rattle.sci_ops.proofs.Took.{took_tag, no_tag, took_none, if_so, if_not, asked}
use Rattle.sci_ops.proofs.turns.leaving.successor.Goals as goal

pub tag-requires : goal.tag-requires
tag-requires g c = c.requires.node

pub returns-in_default : goal.returns-in_default
returns-in_default g c = λ shown. no_tag c.in_default.ensures.gives

pub go_on-requires : goal.go_on-requires
go_on-requires g c = record { allowed = allowed_in (g.P.Port.way c.tag.new.self) (Event.TellSuccessor c.in-Some.found) _ _ (c.in-Some.ensures.same_step ∙ c.requires.step.2) (carried_with _ _ _ _ (asked (λ n. is_behind n c.in-Some.found) _ _ _ (c.node-me.ensures.value ∙ ap (λ (w : Way). w.node) (sym c.in-Some.ensures.same_way)) c.if-is_behind.ensures) c.in-Some.ensures.form.0); fits = tt }

pub returns-then-is_behind : goal.returns-then-is_behind
returns-then-is_behind g c = λ shown. took_tag _ c.in-Some.ensures.gives (if_so _ _ _ (asked (λ n. is_behind n c.in-Some.found) _ _ _ c.node-me.ensures.value c.if-is_behind.ensures)) (c.go_on.ensures shown)

pub returns-else-is_behind : goal.returns-else-is_behind
returns-else-is_behind g c = λ shown. took_tag _ c.in-Some.ensures.gives (if_not _ _ _ (asked (λ n. is_behind n c.in-Some.found) _ _ _ c.node-me.ensures.value c.if-is_behind.ensures)) took_none
