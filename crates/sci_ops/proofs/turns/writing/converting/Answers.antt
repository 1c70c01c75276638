use Rattle.std.proofs.Common.{◌∙◌, ap, not}
use Rattle.sci_core.specs.declared.events.Event.{Event}
use Rattle.sci_core.specs.Found.{names}
use Rattle.sci_ops.proofs.Staged.{allowed_in}
use Rattle.sci_ops.proofs.Took.{took_mem, no_mem, if_so, if_not, asked}
use Rattle.sci_ops.proofs.turns.writing.converting.Goals as goal

pub go_on-requires : goal.go_on-requires
go_on-requires g c = record { allowed = allowed_in (g.P.Port.way c.args.port.now) Event.Converted _ _ (c.requires.step.1) c.if-turned.true; fits = tt }

pub returns-then-turned : goal.returns-then-turned
returns-then-turned g c = λ shown. rw c.if-turned.true (c.go_on.ensures shown)

pub returns-in_default : goal.returns-in_default
returns-in_default g c = λ shown. rw c.if-turned.false (no_mem c.in_default.ensures.gives)

pub go_on-requires-then-names : goal.go_on-requires-then-names
go_on-requires-then-names g c = record { allowed = allowed_in (g.P.Port.way c.mem.new.self) Event.FreshToGone _ _ (c.in-Some.ensures.same_step ∙ c.requires.step.1) (ap not c.if-turned.false); fits = tt }

pub go_on-requires-else-names : goal.go_on-requires-else-names
go_on-requires-else-names g c = record { allowed = allowed_in (g.P.Port.way c.mem.new.self) Event.Unconverted _ _ (c.in-Some.ensures.same_step ∙ c.requires.step.1) (ap not c.if-turned.false); fits = tt }

pub returns-then-names : goal.returns-then-names
returns-then-names g c = λ shown. rw c.if-turned.false (took_mem _ c.in-Some.ensures.gives (if_so _ _ _ (asked (λ n. names n c.in-Some.mem.forw) _ _ _ c.node-me.ensures.value c.if-names.ensures)) (c.go_on-then-names.ensures shown))

pub returns-else-names : goal.returns-else-names
returns-else-names g c = λ shown. rw c.if-turned.false (took_mem _ c.in-Some.ensures.gives (if_not _ _ _ (asked (λ n. names n c.in-Some.mem.forw) _ _ _ c.node-me.ensures.value c.if-names.ensures)) (c.go_on-else-names.ensures shown))
