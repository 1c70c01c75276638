use Rattle.std.proofs.Common.{refl}
use Rattle.sci_core.specs.declared.events.Event.{Event}
use Rattle.sci_core.specs.Found.{is_dirty, is_settled, is_settled_front}
use Rattle.sci_ops.proofs.Staged.{allowed_in}
use Rattle.sci_ops.proofs.Carried.{found_as}
use Rattle.sci_ops.proofs.turns.idle.dirty.Goals as goal

pub go_on-requires : goal.go_on-requires
go_on-requires g c = record { allowed = allowed_in (g.P.Port.way c.args.port.now) (Event.Hold c.args.tag) _ _ (c.requires.step) (found_as is_settled _ _ c.requires.kind refl c.requires.free c.requires.form.0); fits = tt }

pub go_on-requires-in-Write : goal.go_on-requires-in-Write
go_on-requires-in-Write g c = record { allowed = allowed_in (g.P.Port.way c.args.port.now) (Event.BeginPurge c.args.tag) _ _ (c.requires.step) (found_as is_dirty _ _ c.requires.kind refl c.requires.free c.requires.form.0); fits = tt }

pub at_front-requires : goal.at_front-requires
at_front-requires g c = record { allowed = allowed_in (g.P.Port.way c.args.port.now) (Event.Leave c.args.tag) _ _ (c.requires.step) (found_as is_settled_front _ _ c.requires.kind refl c.requires.free c.requires.form.0); fits = tt }

pub returns-in-Load : goal.returns-in-Load
returns-in-Load g c = λ shown. rw c.in-Load.is (c.go_on.ensures shown)

pub returns-in-Write : goal.returns-in-Write
returns-in-Write g c = λ shown. rw c.in-Write.is (c.go_on-in-Write.ensures shown)

pub returns-in-Evict : goal.returns-in-Evict
returns-in-Evict g c = λ shown. rw c.in-Evict.is (c.at_front.ensures shown)
