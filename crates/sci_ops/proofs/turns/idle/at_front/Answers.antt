use Rattle.sci_core.specs.Found.{names}
use Rattle.sci_ops.proofs.Staged.{allowed_on, fits_on}
use Rattle.sci_ops.proofs.Took.{took_mem, no_mem, took_none, if_so, if_not, asked}
use Rattle.sci_ops.proofs.turns.idle.at_front.Goals as goal

pub returns-in_default : goal.returns-in_default
returns-in_default g c = λ shown. no_mem c.in_default.ensures.gives

pub go_on-requires : goal.go_on-requires
go_on-requires g c = record { allowed = allowed_on _ _ c.args.event _ _ c.in-Some.ensures.same_way c.in-Some.ensures.same_step c.requires.allowed; fits = fits_on g.P.Keep.Keeps.fits _ _ _ _ c.args.event c.in-Some.ensures.same_fact c.in-Some.ensures.same_way c.requires.fits }

pub returns-then-names : goal.returns-then-names
returns-then-names g c = λ shown. took_mem _ c.in-Some.ensures.gives (if_so _ _ _ (asked (λ n. names n c.in-Some.mem.forw) _ _ _ c.node-me.ensures.value c.if-names.ensures)) (c.go_on.ensures shown)

pub returns-else-names : goal.returns-else-names
returns-else-names g c = λ shown. took_mem _ c.in-Some.ensures.gives (if_not _ _ _ (asked (λ n. names n c.in-Some.mem.forw) _ _ _ c.node-me.ensures.value c.if-names.ensures)) took_none
