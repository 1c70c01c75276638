use Rattle.std.proofs.Common.{◌∙◌, refl, ap, sym}
use Rattle.sci_core.specs.declared.events.Event.{Event}
use Rattle.sci_core.specs.Found.{names}
use Rattle.sci_port.specs.Way.{Way}
use Rattle.sci_ops.specs.Table.{leave}
use Rattle.sci_ops.proofs.Staged.{allowed_in, looked_in}
use Rattle.sci_ops.proofs.Carried.{first, link_at}
use Rattle.sci_ops.proofs.Took.{took_own, no_own, took_mem, no_mem, if_so, if_not, asked}
use Rattle.sci_ops.proofs.turns.leaving.leaving.Goals as goal

pub returns-in_default : goal.returns-in_default
returns-in_default g c = λ shown. no_own c.in_default.ensures.gives

pub returns-in_default-mem : goal.returns-in_default-mem
returns-in_default-mem g c = λ shown. took_own _ c.in-Some.ensures.gives refl (no_mem c.in_default-mem.ensures.gives)

pub go_on-requires : goal.go_on-requires
go_on-requires g c = record { allowed = allowed_in (g.P.Port.way c.mem.new.self) Event.Stay _ _ (c.in-Some-mem.ensures.same_step ∙ looked_in _ _ _ _ c.in-Some.ensures.look c.requires.step.2) refl; fits = tt }

pub leave-requires : goal.leave-requires
leave-requires g c = record { step = (_, c.in-Some-mem.ensures.same_step ∙ looked_in _ _ _ _ c.in-Some.ensures.look c.requires.step.2); link = link_at _ _ _ (c.in-Some-mem.ensures.same_way ∙ c.in-Some.ensures.same_way) (first _ _ c.in-Some.ensures.form.1) }

pub returns-then-not-names : goal.returns-then-not-names
returns-then-not-names g c = λ shown. took_own _ c.in-Some.ensures.gives refl (took_mem _ c.in-Some-mem.ensures.gives (if_not _ _ _ (asked (λ n. names n c.in-Some-mem.mem.forw) _ _ _ c.node-me.ensures.value c.if-not-names.ensures)) (c.go_on.ensures shown))

pub returns : goal.returns
returns g c = λ shown. took_own _ c.in-Some.ensures.gives refl (took_mem _ c.in-Some-mem.ensures.gives (if_so _ _ _ (asked (λ n. names n c.in-Some-mem.mem.forw) _ _ _ c.node-me.ensures.value c.if-not-names.ensures) ∙ ap (λ n. leave n c.args.dirty c.in-Some.tag.forw) (ap (λ (w : Way). w.node) (sym (c.in-Some-mem.ensures.same_way ∙ c.in-Some.ensures.same_way)))) (c.leave.ensures shown))
