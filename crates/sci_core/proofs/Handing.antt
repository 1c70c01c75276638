-- A row gives back the slot that its node took last, and the hand is that of the step after.
use Rattle.std.proofs.Common.{◌≡◌, ℕ, true, false, Bool, Option, Some, None, refl}
use Rattle.std.proofs.lemmas.Bool.{false≢true}
use Rattle.sci_core.specs.declared.lines.Line.{Line}
use Rattle.sci_core.specs.declared.pending.Pending.{Pending}
use Rattle.sci_core.specs.declared.events.Event.{Event}
use Rattle.sci_core.specs.Row.{Row}
use Rattle.sci_core.specs.Table.{has_row, row_of}
use Rattle.sci_core.specs.Table.Idle.{idle_allows, idle_row}
use Rattle.sci_core.specs.Table.Queueing.{queueing_allows, queueing_row}
use Rattle.sci_core.specs.Table.InQueue.{in_queue_allows, in_queue_row}
use Rattle.sci_core.specs.Table.Converting.{converting_allows, converting_row}
use Rattle.sci_core.specs.Table.Purging.{purging_allows, purging_row}
use Rattle.sci_core.specs.Table.Leaving.{leaving_allows, leaving_row}
use Rattle.sci_core.specs.Table.Rolling.{rolling_allows, rolling_row}
use Rattle.sci_core.specs.Carrying.{hand_of, GivesLast, hand_after}

pub record Hands (me : ℕ) (p : Pending) (r : Row) : Type 0 where
  pub gives : GivesLast r.carry (hand_of me p)
  pub after : (y : Line) → hand_of me (r.after y) ≡ hand_after r.carry (hand_of me p)

idle_hands : (n me : ℕ) (e : Event) → idle_allows n e ≡ true → Hands me Pending.Idle (idle_row me e)
idle_hands n me (Event.Queue f) h = record { gives = tt; after = λ y. refl }
idle_hands n me (Event.Hold w) h = record { gives = tt; after = λ y. refl }
idle_hands n me (Event.Convert w) h = record { gives = tt; after = λ y. refl }
idle_hands n me (Event.BeginPurge w) h = record { gives = tt; after = λ y. refl }
idle_hands n me (Event.Roll w) h = record { gives = tt; after = λ y. refl }
idle_hands n me (Event.Leave w) h = record { gives = tt; after = λ y. refl }
idle_hands n me _ h = absurd (false≢true h)

queueing_hands : (n me : ℕ) (e : Event) (f : Option ℕ) → queueing_allows n f e ≡ true → Hands me (Pending.Queueing f) (queueing_row me e f)
queueing_hands n me (Event.Requeue g) f h = record { gives = tt; after = λ y. refl }
queueing_hands n me Event.PrependValid f h = record { gives = tt; after = λ y. refl }
queueing_hands n me Event.PrependGone (Some x) h = record { gives = tt; after = λ y. refl }
queueing_hands n me Event.PrependGone None h = absurd (false≢true h)
queueing_hands n me Event.HomeWrite None h = record { gives = tt; after = λ y. refl }
queueing_hands n me Event.HomeWrite (Some x) h = absurd (false≢true h)
queueing_hands n me _ f h = absurd (false≢true h)

in_queue_hands : (me : ℕ) (e : Event) (f : Option ℕ) (d : Bool) (c : Option Line) → in_queue_allows e f d c ≡ true → Hands me (Pending.InQueue f d c) (in_queue_row me e f d c)
in_queue_hands me (Event.AttachFresh w) (Some x) false (Some l) h = record { gives = tt; after = λ y. refl }
in_queue_hands me (Event.AttachDirty w) (Some x) true None h = record { gives = tt; after = λ y. refl }
in_queue_hands me Event.Settle None d (Some l) h = record { gives = refl; after = λ y. refl }
in_queue_hands me _ f d c h = absurd (false≢true h)

converting_hands : (me : ℕ) (e : Event) (f : Option ℕ) (turned : Bool) → converting_allows turned e ≡ true → Hands me (Pending.Converting f turned) (converting_row me f e)
converting_hands me Event.FreshToGone f turned h = record { gives = tt; after = λ y. refl }
converting_hands me Event.Converted f turned h = record { gives = tt; after = λ y. refl }
converting_hands me Event.Unconverted f turned h = record { gives = tt; after = λ y. refl }
converting_hands me _ f turned h = absurd (false≢true h)

purging_hands : (me : ℕ) (l : Line) (e : Event) (seen : Option (Option ℕ)) → purging_allows me l e seen ≡ true → Hands me (Pending.Purging l seen) (purging_row me l e seen)
purging_hands me l (Event.Written words) seen h = record { gives = refl; after = λ y. refl }
purging_hands me l (Event.PurgeOne w) (Some (Some x)) h = record { gives = tt; after = λ y. refl }
purging_hands me l (Event.Adopt w) (Some (Some x)) h = record { gives = tt; after = λ y. refl }
purging_hands me l _ seen h = absurd (false≢true h)

leaving_hands : (me : ℕ) (d : Bool) (l : Line) (e : Event) (seen : Option (Option ℕ)) → leaving_allows me d e seen ≡ true → Hands me (Pending.Leaving d l seen) (leaving_row me d l e seen)
leaving_hands me d l (Event.Promote w) (Some (Some x)) h = record { gives = tt; after = λ y. refl }
leaving_hands me d l Event.Stay (Some f) h = record { gives = refl; after = λ y. refl }
leaving_hands me d l Event.ReturnHomeFresh (Some None) h = record { gives = tt; after = λ y. refl }
leaving_hands me d l Event.ReturnHomeDirty (Some None) h = record { gives = tt; after = λ y. refl }
leaving_hands me d l _ seen h = absurd (false≢true h)

rolling_hands : (me : ℕ) (told : Bool) (e : Event) (seen : Option (Option ℕ × ℕ)) → rolling_allows me told e seen ≡ true → Hands me (Pending.Rolling told seen) (rolling_row e seen)
rolling_hands me told (Event.TellSuccessor w) (Some (Some x, b)) h = record { gives = tt; after = λ y. refl }
rolling_hands me told (Event.TellSuccessor w) (Some (None, b)) h = record { gives = tt; after = λ y. refl }
rolling_hands me told (Event.TellPredecessor w) (Some (f, b)) h = record { gives = tt; after = λ y. refl }
rolling_hands me told _ seen h = absurd (false≢true h)

promoted_hands : (me : ℕ) (d : Bool) (l : Line) (x : ℕ) (e : Event) → has_row 0 me (Pending.Promoted d l x) e ≡ true → Hands me (Pending.Promoted d l x) (row_of me (Pending.Promoted d l x) e)
promoted_hands me d l x Event.PassOn h = record { gives = tt; after = λ y. refl }
promoted_hands me d l x Event.ReEnter h = record { gives = tt; after = λ y. refl }
promoted_hands me d l x _ h = absurd (false≢true h)

pub hands : (n me : ℕ) (p : Pending) (e : Event) → has_row n me p e ≡ true → Hands me p (row_of me p e)
hands n me Pending.Idle e h = idle_hands n me e h
hands n me (Pending.Holding w l) Event.Unhold h = record { gives = refl; after = λ y. refl }
hands n me (Pending.Queueing f) e h = queueing_hands n me e f h
hands n me (Pending.Fetching f d l) Event.ReturnMemory h = record { gives = refl; after = λ y. refl }
hands n me (Pending.InQueue f d c) e h = in_queue_hands me e f d c h
hands n me (Pending.Copying x w l) Event.ReturnCopy h = record { gives = refl; after = λ y. refl }
hands n me (Pending.Ready f d l) Event.Settle h = record { gives = refl; after = λ y. refl }
hands n me (Pending.Converting f turned) e h = converting_hands me e f turned h
hands n me (Pending.Purging l seen) e h = purging_hands me l e seen h
hands n me (Pending.Advancing l x w) Event.Advance h = record { gives = tt; after = λ y. refl }
hands n me (Pending.Clearing l x w) Event.Clear h = record { gives = tt; after = λ y. refl }
hands n me (Pending.Leaving d l seen) e h = leaving_hands me d l e seen h
hands n me (Pending.Promoted d l x) e h = promoted_hands me d l x e h
hands n me (Pending.WritingBack l) Event.ReturnMemory h = record { gives = refl; after = λ y. refl }
hands n me (Pending.Parted f) Event.Left h = record { gives = refl; after = λ y. refl }
hands n me (Pending.Rolling told seen) e h = rolling_hands me told e seen h
hands n me (Pending.Unlinked f b) Event.Rolled h = record { gives = tt; after = λ y. refl }
hands n me _ e h = absurd (false≢true h)
