-- An allowed event changes the word, and moves the slot, of memory or of a node of the line.
use Rattle.std.proofs.Common.{◌≡◌, ◌∙◌, ℕ, ◌<◌, Bool, Option, Some, None, refl, ap}
use Rattle.sci_core.specs.declared.lines.Line.{Line}
use Rattle.sci_core.specs.declared.pending.Pending.{Pending}
use Rattle.sci_core.specs.declared.events.Event.{Event}
use Rattle.sci_core.specs.State.{State}
use Rattle.sci_core.specs.Shape.{shape, kept_of, seen_forw_of, seen_back_of}
use Rattle.sci_core.specs.Law.{Below}
use Rattle.sci_core.specs.Row.{Row}
use Rattle.sci_core.specs.Table.{row_of}
use Rattle.sci_core.specs.Table.InQueue.{in_queue_row}
use Rattle.sci_core.specs.Table.Purging.{purging_row}
use Rattle.sci_core.specs.Table.Leaving.{leaving_row}
use Rattle.sci_core.specs.Table.Rolling.{rolling_row}
use Rattle.sci_core.specs.Ranges.{ChangesBelow, CarriesBelow}

pub record RowBelow (n : ℕ) (r : Row) : Type 0 where
  pub change : ChangesBelow n r.change
  pub carry : CarriesBelow n r.carry

module _ (n : ℕ) (s : State) (b : Below n (shape s)) (me : ℕ) (below : me < n) where
  -- the link that the step keeps
  kept_below : {p : Pending} → s.steps me ≡ p → (x : ℕ) → kept_of p ≡ Some x → x < n
  kept_below e x h = b.kept me x (ap kept_of e ∙ h)

  seen_below : {p : Pending} → s.steps me ≡ p → (x : ℕ) → seen_forw_of p ≡ Some x → x < n
  seen_below e x h = b.seen_forw me x (ap seen_forw_of e ∙ h)

  back_below : {p : Pending} → s.steps me ≡ p → (x : ℕ) → seen_back_of p ≡ Some x → x < n
  back_below e x h = b.seen_back me x (ap seen_back_of e ∙ h)

  idle_below : (e : Event) → RowBelow n (row_of me Pending.Idle e)
  idle_below (Event.Queue f) = record { change = below; carry = below }
  idle_below (Event.Hold w) = record { change = below; carry = below }
  idle_below (Event.Convert w) = record { change = below; carry = tt }
  idle_below (Event.BeginPurge w) = record { change = below; carry = below }
  idle_below (Event.Roll w) = record { change = below; carry = tt }
  idle_below (Event.Leave w) = record { change = below; carry = below }
  idle_below _ = record { change = tt; carry = tt }

  in_queue_below : (e : Event) (f : Option ℕ) (d : Bool) (c : Option Line) → s.steps me ≡ Pending.InQueue f d c → RowBelow n (in_queue_row me e f d c)
  in_queue_below (Event.AttachFresh w) (Some x) d (Some l) p = record { change = kept_below p x refl; carry = tt }
  in_queue_below (Event.AttachDirty w) (Some x) d None p = record { change = kept_below p x refl; carry = kept_below p x refl }
  in_queue_below Event.Settle None d (Some l) p = record { change = below; carry = below }
  in_queue_below _ f d c p = record { change = tt; carry = tt }

  queueing_below : (e : Event) (f : Option ℕ) → RowBelow n (row_of me (Pending.Queueing f) e)
  queueing_below (Event.Requeue h) f = record { change = below; carry = tt }
  queueing_below Event.PrependValid f = record { change = tt; carry = tt }
  queueing_below Event.PrependGone (Some x) = record { change = tt; carry = tt }
  queueing_below Event.PrependGone None = record { change = tt; carry = tt }
  queueing_below Event.HomeWrite (Some x) = record { change = tt; carry = tt }
  queueing_below Event.HomeWrite None = record { change = tt; carry = tt }
  queueing_below _ f = record { change = tt; carry = tt }

  purging_below : (l : Line) (e : Event) (seen : Option (Option ℕ)) → s.steps me ≡ Pending.Purging l seen → RowBelow n (purging_row me l e seen)
  purging_below l (Event.Written words) seen p = record { change = below; carry = below }
  purging_below l (Event.PurgeOne w) (Some (Some x)) p = record { change = seen_below p x refl; carry = tt }
  purging_below l (Event.Adopt w) (Some (Some x)) p = record { change = seen_below p x refl; carry = tt }
  purging_below l _ seen p = record { change = tt; carry = tt }

  leaving_below : (d : Bool) (l : Line) (e : Event) (seen : Option (Option ℕ)) → s.steps me ≡ Pending.Leaving d l seen → RowBelow n (leaving_row me d l e seen)
  leaving_below d l (Event.Promote w) (Some (Some x)) p = record { change = seen_below p x refl; carry = tt }
  leaving_below d l Event.Stay (Some f) p = record { change = below; carry = below }
  leaving_below d l Event.ReturnHomeFresh (Some None) p = record { change = tt; carry = tt }
  leaving_below d l Event.ReturnHomeDirty (Some None) p = record { change = tt; carry = tt }
  leaving_below d l _ seen p = record { change = tt; carry = tt }

  rolling_below : (told : Bool) (e : Event) (seen : Option (Option ℕ × ℕ)) → s.steps me ≡ Pending.Rolling told seen → RowBelow n (rolling_row e seen)
  rolling_below told (Event.TellSuccessor w) (Some (Some x, y)) p = record { change = seen_below p x refl; carry = tt }
  rolling_below told (Event.TellPredecessor w) (Some (f, y)) p = record { change = back_below p y refl; carry = tt }
  rolling_below told _ seen p = record { change = tt; carry = tt }

  converting_below : (e : Event) (f : Option ℕ) (turned : Bool) → RowBelow n (row_of me (Pending.Converting f turned) e)
  converting_below Event.FreshToGone f turned = record { change = tt; carry = tt }
  converting_below Event.Converted f turned = record { change = below; carry = below }
  converting_below Event.Unconverted f turned = record { change = below; carry = tt }
  converting_below _ f turned = record { change = tt; carry = tt }

  promoted_below : (d : Bool) (l : Line) (x : ℕ) (e : Event) → RowBelow n (row_of me (Pending.Promoted d l x) e)
  promoted_below d l x Event.PassOn = record { change = tt; carry = tt }
  promoted_below d l x Event.ReEnter = record { change = below; carry = tt }
  promoted_below d l x _ = record { change = tt; carry = tt }

  pub row_below : (p : Pending) (e : Event) → s.steps me ≡ p → RowBelow n (row_of me p e)
  row_below Pending.Idle e p = idle_below e
  row_below (Pending.Holding w l) Event.Unhold p = record { change = below; carry = below }
  row_below (Pending.Queueing f) e p = queueing_below e f
  row_below (Pending.Fetching f d l) Event.ReturnMemory p = record { change = tt; carry = tt }
  row_below (Pending.InQueue f d c) e p = in_queue_below e f d c p
  row_below (Pending.Copying x w l) Event.ReturnCopy p = record { change = kept_below p x refl; carry = kept_below p x refl }
  row_below (Pending.Ready f d l) Event.Settle p = record { change = below; carry = below }
  row_below (Pending.Converting f turned) e p = converting_below e f turned
  row_below (Pending.Purging l seen) e p = purging_below l e seen p
  row_below (Pending.Advancing l x w) Event.Advance p = record { change = below; carry = tt }
  row_below (Pending.Clearing l x w) Event.Clear p = record { change = kept_below p x refl; carry = tt }
  row_below (Pending.Leaving d l seen) e p = leaving_below d l e seen p
  row_below (Pending.Promoted d l x) e p = promoted_below d l x e
  row_below (Pending.WritingBack l) Event.ReturnMemory p = record { change = tt; carry = tt }
  row_below (Pending.Parted f) Event.Left p = record { change = below; carry = below }
  row_below (Pending.Rolling told seen) e p = rolling_below told e seen p
  row_below (Pending.Unlinked f y) Event.Rolled p = record { change = below; carry = tt }
  row_below _ e p = record { change = tt; carry = tt }
