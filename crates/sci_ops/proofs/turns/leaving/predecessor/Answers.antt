use Rattle.std.proofs.Common.{◌∙◌, ap, sym}
use Rattle.sci_core.specs.declared.events.Event.{Event}
use Rattle.sci_port.specs.Way.{Way}
use Rattle.sci_ops.specs.Table.{is_before}
use Rattle.sci_ops.proofs.Staged.{allowed_in}
use Rattle.sci_ops.proofs.Carried.{carried_with, both}
use Rattle.sci_ops.proofs.Took.{took_tag, no_tag, took_none, if_so, if_not, asked}
use Rattle.sci_ops.proofs.turns.leaving.predecessor.Goals as goal

pub tag-requires : goal.tag-requires
tag-requires g c = c.requires.node

pub returns-in_default : goal.returns-in_default
returns-in_default g c = λ shown. no_tag c.in_default.ensures.gives

pub go_on-requires : goal.go_on-requires
go_on-requires g c = record { allowed = allowed_in (g.P.Port.way c.tag.new.self) (Event.TellPredecessor c.in-Some.found) _ _ (c.in-Some.ensures.same_step ∙ c.requires.step.3) (both _ _ c.requires.step.4 (carried_with _ _ _ _ (asked (λ n. is_before n c.in-Some.found) _ _ _ (c.node-me.ensures.value ∙ ap (λ (w : Way). w.node) (sym c.in-Some.ensures.same_way)) c.if-is_before.ensures) c.in-Some.ensures.form.0)); fits = tt }

pub returns-then-is_before : goal.returns-then-is_before
returns-then-is_before g c = λ shown. took_tag _ c.in-Some.ensures.gives (if_so _ _ _ (asked (λ n. is_before n c.in-Some.found) _ _ _ c.node-me.ensures.value c.if-is_before.ensures)) (c.go_on.ensures shown)

pub returns-else-is_before : goal.returns-else-is_before
returns-else-is_before g c = λ shown. took_tag _ c.in-Some.ensures.gives (if_not _ _ _ (asked (λ n. is_before n c.in-Some.found) _ _ _ c.node-me.ensures.value c.if-is_before.ensures)) took_none
