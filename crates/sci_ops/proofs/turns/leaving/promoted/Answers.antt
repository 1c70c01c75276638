use Rattle.std.proofs.Common.{◌∙◌, refl}
use Rattle.sci_core.specs.declared.events.Event.{Event}
use Rattle.sci_core.specs.Found.{names}
use Rattle.sci_ops.proofs.Staged.{allowed_in}
use Rattle.sci_ops.proofs.Took.{took_mem, no_mem, if_so, if_not, asked}
use Rattle.sci_ops.proofs.turns.leaving.promoted.Goals as goal

pub returns-in_default : goal.returns-in_default
returns-in_default g c = λ shown. no_mem c.in_default.ensures.gives

pub go_on-requires : goal.go_on-requires
go_on-requires g c = record { allowed = allowed_in (g.P.Port.way c.mem.new.self) Event.PassOn _ _ (c.in-Some.ensures.same_step ∙ c.requires.step.3) refl; fits = tt }

pub go_on-requires-else-names : goal.go_on-requires-else-names
go_on-requires-else-names g c = record { allowed = allowed_in (g.P.Port.way c.mem.new.self) Event.ReEnter _ _ (c.in-Some.ensures.same_step ∙ c.requires.step.3) refl; fits = tt }

pub returns-then-names : goal.returns-then-names
returns-then-names g c = λ shown. took_mem _ c.in-Some.ensures.gives (if_so _ _ _ (asked (λ n. names n c.in-Some.mem.forw) _ _ _ c.node-me.ensures.value c.if-names.ensures)) (c.go_on.ensures shown)

pub returns-else-names : goal.returns-else-names
returns-else-names g c = λ shown. took_mem _ c.in-Some.ensures.gives (if_not _ _ _ (asked (λ n. names n c.in-Some.mem.forw) _ _ _ c.node-me.ensures.value c.if-names.ensures)) (c.go_on-else-names.ensures shown)
