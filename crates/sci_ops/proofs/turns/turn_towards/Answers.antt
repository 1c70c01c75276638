use Rattle.std.proofs.Common.{◌≡◌, true, refl}
use Rattle.sci_core.specs.declared.events.Event.{Event}
use Rattle.sci_core.specs.Answers.{is_allowed}
use Rattle.sci_ops.specs.Answers.{EndsWithStamp}
use Rattle.sci_ops.specs.TurnKinds.{turn_with}
use Rattle.sci_ops.specs.Plan.{Takes}
use Rattle.sci_ops.specs.Table.{turn_in}
use Rattle.sci_ops.proofs.Staged.{as_staged, allowed_at, turn_at, stamp_at, returning, queued, turn_queued, ended_with}
use Rattle.sci_ops.proofs.turns.turn_towards.Goals as goal

pub idle-requires : goal.idle-requires
idle-requires g c = record { step = as_staged _ (g.P.Port.at_step c.args.port.now) c.in-Idle.ensures.value }

pub exchange-requires : goal.exchange-requires
exchange-requires g c = record { allowed = allowed_at (g.P.Port.at_step c.args.port.now) (g.P.Port.way c.args.port.now) Event.Unhold _ c.in-Holding.ensures.value refl; fits = tt }

pub queueing-requires : goal.queueing-requires
queueing-requires g c = record { step = as_staged _ (g.P.Port.at_step c.args.port.now) c.in-Queueing.ensures.value }

pub go_on-requires : goal.go_on-requires
go_on-requires g c = record { allowed = returning (g.P.Port.at_step c.args.port.now) _ c.stage.ensures.value c.in-Fetching.is (λ p. is_allowed (g.P.Port.way c.args.port.now).nodes (g.P.Port.way c.args.port.now).node p Event.ReturnMemory ≡ true) (λ f d l. refl) (λ l. refl); fits = tt }

pub in_queue-requires : goal.in_queue-requires
in_queue-requires g c = record { step = queued _ _ _ (g.P.Port.at_step c.args.port.now) c.in-InQueue.ensures.value; sound = c.in-InQueue.ensures.sound }

pub go_on-requires-in-Copying : goal.go_on-requires-in-Copying
go_on-requires-in-Copying g c = record { allowed = allowed_at (g.P.Port.at_step c.args.port.now) (g.P.Port.way c.args.port.now) Event.ReturnCopy _ c.in-Copying.ensures.value refl; fits = tt }

pub exchange-requires-in-Ready : goal.exchange-requires-in-Ready
exchange-requires-in-Ready g c = record { allowed = allowed_at (g.P.Port.at_step c.args.port.now) (g.P.Port.way c.args.port.now) Event.Settle _ c.in-Ready.ensures.value refl; fits = tt }

pub converting-requires : goal.converting-requires
converting-requires g c = record { step = (_, as_staged _ (g.P.Port.at_step c.args.port.now) c.in-Converting.ensures.value) }

pub purging-requires : goal.purging-requires
purging-requires g c = record { step = (_, _, as_staged _ (g.P.Port.at_step c.args.port.now) c.in-Purging.ensures.value); fits = c.requires.fits }

pub go_on-requires-in-Advancing : goal.go_on-requires-in-Advancing
go_on-requires-in-Advancing g c = record { allowed = allowed_at (g.P.Port.at_step c.args.port.now) (g.P.Port.way c.args.port.now) Event.Advance _ c.in-Advancing.ensures.value refl; fits = tt }

pub go_on-requires-in-Clearing : goal.go_on-requires-in-Clearing
go_on-requires-in-Clearing g c = record { allowed = allowed_at (g.P.Port.at_step c.args.port.now) (g.P.Port.way c.args.port.now) Event.Clear _ c.in-Clearing.ensures.value refl; fits = tt }

pub leaving-requires : goal.leaving-requires
leaving-requires g c = record { step = (_, _, as_staged _ (g.P.Port.at_step c.args.port.now) c.in-Leaving.ensures.value) }

pub promoted-requires : goal.promoted-requires
promoted-requires g c = record { step = (_, _, _, as_staged _ (g.P.Port.at_step c.args.port.now) c.in-Promoted.ensures.value) }

pub exchange-requires-in-Parted : goal.exchange-requires-in-Parted
exchange-requires-in-Parted g c = record { allowed = allowed_at (g.P.Port.at_step c.args.port.now) (g.P.Port.way c.args.port.now) Event.Left _ c.in-Parted.ensures.value refl; fits = tt }

pub rolling-requires : goal.rolling-requires
rolling-requires g c = record { step = (_, as_staged _ (g.P.Port.at_step c.args.port.now) c.in-Rolling.ensures.value) }

pub exchange-requires-in-Unlinked : goal.exchange-requires-in-Unlinked
exchange-requires-in-Unlinked g c = record { allowed = allowed_at (g.P.Port.at_step c.args.port.now) (g.P.Port.way c.args.port.now) Event.Rolled _ c.in-Unlinked.ensures.value refl; fits = tt }

pub returns-in-Idle : goal.returns-in-Idle
returns-in-Idle g c = record { calls = turn_at (g.P.Port.at_step c.args.port.now) _ _ _ c.in-Idle.ensures.value (c.idle.ensures _); stamp = stamp_at (g.P.Port.at_step c.args.port.now) _ c.in-Idle.ensures.value tt }

pub returns-in-Holding : goal.returns-in-Holding
returns-in-Holding g c = record { calls = turn_at (g.P.Port.at_step c.args.port.now) _ _ _ c.in-Holding.ensures.value (ended_with c.seen_end.ensures c.exchange.ensures); stamp = stamp_at (g.P.Port.at_step c.args.port.now) _ c.in-Holding.ensures.value tt }

pub returns-in-Queueing : goal.returns-in-Queueing
returns-in-Queueing g c = record { calls = turn_at (g.P.Port.at_step c.args.port.now) _ _ _ c.in-Queueing.ensures.value (c.queueing.ensures _); stamp = stamp_at (g.P.Port.at_step c.args.port.now) _ c.in-Queueing.ensures.value tt }

pub returns-in-Fetching : goal.returns-in-Fetching
returns-in-Fetching g c = record {
  calls = returning (g.P.Port.at_step c.args.port.now) _ c.stage.ensures.value c.in-Fetching.is (λ p. Takes g.P.Port.gives (turn_in c.args.goal.now (g.P.Port.way c.args.port.now).node p) c.args.port.now (turn_with c.go_on.result c.args.shown.now) c.go_on.new.port) (λ f d l. c.go_on.ensures _) (λ l. c.go_on.ensures _);
  stamp = returning (g.P.Port.at_step c.args.port.now) _ c.stage.ensures.value c.in-Fetching.is (λ p. EndsWithStamp (turn_with c.go_on.result c.args.shown.now) p) (λ f d l answer is. tt) (λ l answer is. tt);
}

pub returns-in-InQueue : goal.returns-in-InQueue
returns-in-InQueue g c = record { calls = turn_queued _ _ _ _ _ (g.P.Port.at_step c.args.port.now) c.in-InQueue.ensures.value c.in_queue.ensures; stamp = stamp_at (g.P.Port.at_step c.args.port.now) _ c.in-InQueue.ensures.value tt }

pub returns-in-Copying : goal.returns-in-Copying
returns-in-Copying g c = record { calls = turn_at (g.P.Port.at_step c.args.port.now) _ _ _ c.in-Copying.ensures.value (c.go_on-in-Copying.ensures _); stamp = stamp_at (g.P.Port.at_step c.args.port.now) _ c.in-Copying.ensures.value tt }

pub returns-in-Ready : goal.returns-in-Ready
returns-in-Ready g c = record { calls = turn_at (g.P.Port.at_step c.args.port.now) _ _ _ c.in-Ready.ensures.value (ended_with c.seen_end-in-Ready.ensures c.exchange-in-Ready.ensures); stamp = stamp_at (g.P.Port.at_step c.args.port.now) _ c.in-Ready.ensures.value tt }

pub returns-in-Converting : goal.returns-in-Converting
returns-in-Converting g c = record { calls = turn_at (g.P.Port.at_step c.args.port.now) _ _ _ c.in-Converting.ensures.value (c.converting.ensures _); stamp = stamp_at (g.P.Port.at_step c.args.port.now) _ c.in-Converting.ensures.value tt }

pub returns-in-Purging : goal.returns-in-Purging
returns-in-Purging g c = record { calls = c.purging.ensures.calls; stamp = c.purging.ensures.stamp }

pub returns-in-Advancing : goal.returns-in-Advancing
returns-in-Advancing g c = record { calls = turn_at (g.P.Port.at_step c.args.port.now) _ _ _ c.in-Advancing.ensures.value (c.go_on-in-Advancing.ensures _); stamp = stamp_at (g.P.Port.at_step c.args.port.now) _ c.in-Advancing.ensures.value tt }

pub returns-in-Clearing : goal.returns-in-Clearing
returns-in-Clearing g c = record { calls = turn_at (g.P.Port.at_step c.args.port.now) _ _ _ c.in-Clearing.ensures.value (c.go_on-in-Clearing.ensures _); stamp = stamp_at (g.P.Port.at_step c.args.port.now) _ c.in-Clearing.ensures.value tt }

pub returns-in-Leaving : goal.returns-in-Leaving
returns-in-Leaving g c = record { calls = turn_at (g.P.Port.at_step c.args.port.now) _ _ _ c.in-Leaving.ensures.value (c.leaving.ensures _); stamp = stamp_at (g.P.Port.at_step c.args.port.now) _ c.in-Leaving.ensures.value tt }

pub returns-in-Promoted : goal.returns-in-Promoted
returns-in-Promoted g c = record { calls = turn_at (g.P.Port.at_step c.args.port.now) _ _ _ c.in-Promoted.ensures.value (c.promoted.ensures _); stamp = stamp_at (g.P.Port.at_step c.args.port.now) _ c.in-Promoted.ensures.value tt }

pub returns-in-Parted : goal.returns-in-Parted
returns-in-Parted g c = record { calls = turn_at (g.P.Port.at_step c.args.port.now) _ _ _ c.in-Parted.ensures.value (ended_with c.out_end.ensures c.exchange-in-Parted.ensures); stamp = stamp_at (g.P.Port.at_step c.args.port.now) _ c.in-Parted.ensures.value tt }

pub returns-in-Rolling : goal.returns-in-Rolling
returns-in-Rolling g c = record { calls = turn_at (g.P.Port.at_step c.args.port.now) _ _ _ c.in-Rolling.ensures.value (c.rolling.ensures _); stamp = stamp_at (g.P.Port.at_step c.args.port.now) _ c.in-Rolling.ensures.value tt }

pub returns-in-Unlinked : goal.returns-in-Unlinked
returns-in-Unlinked g c = record { calls = turn_at (g.P.Port.at_step c.args.port.now) _ _ _ c.in-Unlinked.ensures.value (ended_with c.out_end-in-Unlinked.ensures c.exchange-in-Unlinked.ensures); stamp = stamp_at (g.P.Port.at_step c.args.port.now) _ c.in-Unlinked.ensures.value tt }
