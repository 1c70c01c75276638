use Rattle.std.proofs.Common.{◌∙◌, ap, sym, Some, Option, ℕ}
use Rattle.sci_core.specs.declared.events.Event.{Event}
use Rattle.sci_core.specs.declared.pending.Pending.{Pending}
use Rattle.sci_port.specs.Way.{Way}
use Rattle.sci_ops.specs.Table.{is_behind}
use Rattle.sci_ops.proofs.Staged.{allowed_in}
use Rattle.sci_ops.proofs.Carried.{carried_with, node_below}
use Rattle.sci_ops.proofs.Took.{took_tag, no_tag, took_none, if_so, if_not, asked}
use Rattle.sci_ops.proofs.turns.leaving.leave.Goals as goal

pub tag-requires : goal.tag-requires
tag-requires g c = node_below _ _ _ c.in-Some.is c.requires.link

pub returns-in_default-tag : goal.returns-in_default-tag
returns-in_default-tag g c = λ shown. rw c.in-Some.is (no_tag c.in_default-tag.ensures.gives)

pub go_on-requires-then-is_behind : goal.go_on-requires-then-is_behind
go_on-requires-then-is_behind g c = record { allowed = allowed_in (g.P.Port.way c.tag.new.self) (Event.Promote c.in-Some-tag.found) _ _ (c.in-Some-tag.ensures.same_step ∙ c.requires.step.1 ∙ ap (λ (f : Option ℕ). Pending.Leaving c.args.dirty c.requires.step.0 (Some f)) c.in-Some.is) (carried_with _ _ _ _ (asked (λ n. is_behind n c.in-Some-tag.found) _ _ _ (c.node-me.ensures.value ∙ ap (λ (w : Way). w.node) (sym (c.in-Some-tag.ensures.same_way))) c.if-is_behind.ensures) c.in-Some-tag.ensures.form.0); fits = tt }

pub returns-then-is_behind : goal.returns-then-is_behind
returns-then-is_behind g c = λ shown. rw c.in-Some.is (took_tag _ c.in-Some-tag.ensures.gives (if_so _ _ _ (asked (λ n. is_behind n c.in-Some-tag.found) _ _ _ c.node-me.ensures.value c.if-is_behind.ensures)) (c.go_on-then-is_behind.ensures shown))

pub returns-else-is_behind : goal.returns-else-is_behind
returns-else-is_behind g c = λ shown. rw c.in-Some.is (took_tag _ c.in-Some-tag.ensures.gives (if_not _ _ _ (asked (λ n. is_behind n c.in-Some-tag.found) _ _ _ c.node-me.ensures.value c.if-is_behind.ensures)) took_none)
