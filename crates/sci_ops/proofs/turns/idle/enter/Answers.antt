use Rattle.std.proofs.Common.{◌∙◌, refl}
use Rattle.sci_core.specs.declared.events.Event.{Event}
use Rattle.sci_ops.proofs.Staged.{allowed_in}
use Rattle.sci_ops.proofs.Carried.{link_at}
use Rattle.sci_ops.proofs.Took.{took_mem, no_mem}
use Rattle.sci_ops.proofs.turns.idle.enter.Goals as goal

pub returns-in_default : goal.returns-in_default
returns-in_default g c = λ shown. no_mem c.in_default.ensures.gives

pub go_on-requires : goal.go_on-requires
go_on-requires g c = record { allowed = allowed_in (g.P.Port.way c.mem.new.self) (Event.Queue c.in-Some.mem.forw) _ _ (c.in-Some.ensures.same_step ∙ c.requires.step) (link_at _ _ _ c.in-Some.ensures.same_way c.in-Some.ensures.form.1); fits = tt }

pub returns : goal.returns
returns g c = λ shown. took_mem _ c.in-Some.ensures.gives refl (c.go_on.ensures shown)
