use Rattle.std.proofs.Common.{rules, ◌∙◌, ap, sym}
use Rattle.sci_port.specs.Way.{Way}
use Rattle.sci_ops.specs.Table.{idle_as, fresh, dirty, wait}
use Rattle.sci_ops.proofs.Staged.{looked_in}
use Rattle.sci_ops.proofs.Carried.{tag_at}
use Rattle.sci_ops.proofs.Took.{took_own, no_own, took_none, if_so, if_not}
use Rattle.sci_ops.proofs.turns.idle.idle.Goals as goal

pub returns-in_default : goal.returns-in_default
returns-in_default g c = λ shown. no_own c.in_default.ensures.gives

pub returns-then-tag : goal.returns-then-tag
returns-then-tag g c = λ shown. took_own _ c.in-Some.ensures.gives (if_so _ _ _ c.if-tag.true) took_none

pub invalid-requires : goal.invalid-requires
invalid-requires g c = record { step = looked_in _ _ _ _ c.in-Some.ensures.look c.requires.step }

pub fresh-requires : goal.fresh-requires
fresh-requires g c = record { step = looked_in _ _ _ _ c.in-Some.ensures.look c.requires.step; kind = c.in-Fresh.is; free = c.if-tag.false; form = tag_at _ _ _ c.in-Some.ensures.same_way c.in-Some.ensures.form }

pub dirty-requires : goal.dirty-requires
dirty-requires g c = record { step = looked_in _ _ _ _ c.in-Some.ensures.look c.requires.step; kind = c.in-Dirty.is; free = c.if-tag.false; form = tag_at _ _ _ c.in-Some.ensures.same_way c.in-Some.ensures.form }

pub valid-requires : goal.valid-requires
valid-requires g c = record { step = looked_in _ _ _ _ c.in-Some.ensures.look c.requires.step; kind = c.in-Valid.is; free = c.if-tag.false; form = tag_at _ _ _ c.in-Some.ensures.same_way c.in-Some.ensures.form }

pub returns-in-Invalid : goal.returns-in-Invalid
returns-in-Invalid g c = λ shown. took_own _ c.in-Some.ensures.gives (if_not _ _ _ c.if-tag.false ∙ ap (idle_as c.args.goal (g.P.Port.way c.args.port.now).node c.in-Some.tag) c.in-Invalid.is) (c.invalid.ensures shown)

pub returns-in-Fresh : goal.returns-in-Fresh
returns-in-Fresh g c = λ shown. took_own _ c.in-Some.ensures.gives (if_not _ _ _ c.if-tag.false ∙ ap (idle_as c.args.goal (g.P.Port.way c.args.port.now).node c.in-Some.tag) c.in-Fresh.is ∙ ap (λ n. fresh c.args.goal n c.in-Some.tag) (ap (λ (w : Way). w.node) (sym (c.in-Some.ensures.same_way)))) (c.fresh.ensures shown)

pub returns-in-Dirty : goal.returns-in-Dirty
returns-in-Dirty g c = λ shown. took_own _ c.in-Some.ensures.gives (if_not _ _ _ c.if-tag.false ∙ ap (idle_as c.args.goal (g.P.Port.way c.args.port.now).node c.in-Some.tag) c.in-Dirty.is ∙ ap (λ n. dirty c.args.goal n c.in-Some.tag) (ap (λ (w : Way). w.node) (sym (c.in-Some.ensures.same_way)))) (c.dirty.ensures shown)

pub returns-in-Valid : goal.returns-in-Valid
returns-in-Valid g c = λ shown. took_own _ c.in-Some.ensures.gives (if_not _ _ _ c.if-tag.false ∙ ap (idle_as c.args.goal (g.P.Port.way c.args.port.now).node c.in-Some.tag) c.in-Valid.is) (c.valid.ensures shown)

pub returns-in-Queued : goal.returns-in-Queued
returns-in-Queued g c = λ shown. took_own {q = wait} _ c.in-Some.ensures.gives (search rules) took_none
