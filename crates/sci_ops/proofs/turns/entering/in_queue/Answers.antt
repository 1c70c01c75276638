use Rattle.std.proofs.Common.{◌≡◌, ◌∙◌, ℕ, Bool, true, not, Option, is_some, is_none, ap, sym, subst}
use Rattle.std.specs.Prelude.{◌&&◌}
use Rattle.sci_core.specs.declared.pending.Pending.{Pending}
use Rattle.sci_core.specs.declared.events.Event.{Event}
use Rattle.sci_core.specs.Found.{is_fresh, is_dirty}
use Rattle.sci_ops.specs.Table.{is_free, may_attach_fresh}
use Rattle.sci_ops.proofs.Staged.{allowed_in, ended_with, has_settled, entry_below, has_none}
use Rattle.sci_ops.proofs.Carried.{when_carried}
use Rattle.sci_ops.proofs.Took.{took_tag, no_tag, took_none, if_so, if_not}
use Rattle.sci_ops.proofs.turns.entering.in_queue.Goals as goal

pub exchange-requires : goal.exchange-requires
exchange-requires g c = record { allowed = allowed_in (g.P.Port.way c.args.port.now) Event.Settle _ _ (c.requires.step.1 ∙ ap (λ (f : Option ℕ). Pending.InQueue f c.args.dirty c.requires.step.0) c.in_default.is) (has_settled _ _ _ c.requires.sound _ _ (c.requires.step.1 ∙ ap (λ (f : Option ℕ). Pending.InQueue f c.args.dirty c.requires.step.0) c.in_default.is)); fits = tt }

pub returns-in_default : goal.returns-in_default
returns-in_default g c = rw c.in_default.is (ended_with c.seen_end.ensures c.exchange.ensures)

pub tag-requires : goal.tag-requires
tag-requires g c = entry_below _ _ _ c.requires.sound _ _ _ (c.requires.step.1 ∙ ap (λ (f : Option ℕ). Pending.InQueue f c.args.dirty c.requires.step.0) c.in-Some.is)

pub returns-in_default-tag : goal.returns-in_default-tag
returns-in_default-tag g c = rw c.in-Some.is (no_tag c.in_default-tag.ensures.gives)

pub go_on-requires : goal.go_on-requires
go_on-requires g c = record { allowed = allowed_in (g.P.Port.way c.tag.new.self) (Event.AttachFresh c.in-Some-tag.found) _ _ (c.in-Some-tag.ensures.same_step ∙ c.requires.step.1 ∙ ap (λ (f : Option ℕ). Pending.InQueue f c.args.dirty c.requires.step.0) c.in-Some.is) (when_carried (not c.args.dirty && is_some c.requires.step.0) (is_fresh c.in-Some-tag.found.kind) c.in-Some-tag.found.held _ (subst (λ (b : Bool). may_attach_fresh c.args.dirty b c.in-Some-tag.found ≡ true) (sym c.requires.step.2) (sym c.if-may_attach_fresh.ensures)) c.in-Some-tag.ensures.form.0); fits = tt }

pub go_on-requires-then-may_attach_dirty : goal.go_on-requires-then-may_attach_dirty
go_on-requires-then-may_attach_dirty g c = record { allowed = allowed_in (g.P.Port.way c.tag.new.self) (Event.AttachDirty c.in-Some-tag.found) _ _ (c.in-Some-tag.ensures.same_step ∙ c.requires.step.1 ∙ ap (λ (f : Option ℕ). Pending.InQueue f c.args.dirty c.requires.step.0) c.in-Some.is) (when_carried (c.args.dirty && is_none c.requires.step.0) (is_dirty c.in-Some-tag.found.kind) c.in-Some-tag.found.held _ (subst (λ (b : Bool). ((c.args.dirty && b) && is_free is_dirty c.in-Some-tag.found) ≡ true) (has_none _ _ c.requires.step.2) (sym c.if-may_attach_dirty.ensures)) c.in-Some-tag.ensures.form.0); fits = tt }

pub returns-then-may_attach_fresh : goal.returns-then-may_attach_fresh
returns-then-may_attach_fresh g c = rw c.in-Some.is (took_tag _ c.in-Some-tag.ensures.gives (if_so _ _ _ (sym c.if-may_attach_fresh.ensures)) (c.go_on.ensures _))

pub returns-then-may_attach_dirty : goal.returns-then-may_attach_dirty
returns-then-may_attach_dirty g c = rw c.in-Some.is (took_tag _ c.in-Some-tag.ensures.gives (if_not _ _ _ (sym c.if-may_attach_fresh.ensures) ∙ if_so _ _ _ (sym c.if-may_attach_dirty.ensures)) (c.go_on-then-may_attach_dirty.ensures _))

pub returns-else-may_attach_dirty : goal.returns-else-may_attach_dirty
returns-else-may_attach_dirty g c = rw c.in-Some.is (took_tag _ c.in-Some-tag.ensures.gives (if_not _ _ _ (sym c.if-may_attach_fresh.ensures) ∙ if_not _ _ _ (sym c.if-may_attach_dirty.ensures)) took_none)
