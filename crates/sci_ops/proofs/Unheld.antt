-- No event but Hold leads to a held line.
use Rattle.std.proofs.Common.{◌≡◌, ℕ, Bool, true, false, Option, Some, None, refl}
use Rattle.sci_words.specs.declared.tags.Tag.{Tag}
use Rattle.sci_core.specs.declared.lines.Line.{Line}
use Rattle.sci_core.specs.declared.pending.Pending.{Pending}
use Rattle.sci_core.specs.declared.events.Event.{Event}
use Rattle.sci_core.specs.Step.{look_back, look_of}
use Rattle.sci_core.specs.Table.{row_of}
use Rattle.sci_core.specs.Table.Idle.{holding_row, idle_row}
use Rattle.sci_core.specs.Table.Queueing.{fetching_row, queueing_row}
use Rattle.sci_core.specs.Table.InQueue.{copying_row, in_queue_row, ready_row}
use Rattle.sci_core.specs.Table.Converting.{converting_row}
use Rattle.sci_core.specs.Table.Purging.{advancing_row, clearing_row, purging_row}
use Rattle.sci_core.specs.Table.Leaving.{leaving_row, parted_row, promoted_row, writing_back_row}
use Rattle.sci_core.specs.Table.Rolling.{rolling_row, unlinked_row}
use Rattle.sci_port.proofs.Elements.{clash}

abbrev pub is_held : Pending → Bool
is_held (Pending.Holding word line) = true
is_held p = false

abbrev pub is_hold : Event → Bool
is_hold (Event.Hold t) = true
is_hold e = false

-- a look leaves that as it is
back_unheld : (told : Bool) (seen : Option (Option ℕ × ℕ)) (f b : Option ℕ) → is_held (look_back told seen f b) ≡ false
back_unheld told seen f (Some b) = refl
back_unheld told seen f None = refl

pub look_held : (p : Pending) (t : Tag) → is_held (look_of p t) ≡ is_held p
look_held (Pending.Rolling told seen) t = back_unheld told seen t.forw t.back
look_held _ t = refl

idle_unheld : (me : ℕ) (e : Event) (l : Line) → is_hold e ≡ false → is_held ((idle_row me e).after l) ≡ false
idle_unheld me (Event.Hold t) l h = absurd (clash true refl h)
idle_unheld me _ l h = refl

holding_unheld : (me : ℕ) (w : Tag) (k : Line) (e : Event) (l : Line) → is_held ((holding_row me w k e).after l) ≡ false
holding_unheld me w k Event.Unhold l = refl
holding_unheld me w k _ l = refl

queueing_unheld : (me : ℕ) (e : Event) (f : Option ℕ) (l : Line) → is_held ((queueing_row me e f).after l) ≡ false
queueing_unheld me (Event.Requeue g) f l = refl
queueing_unheld me Event.PrependValid f l = refl
queueing_unheld me Event.PrependGone (Some x) l = refl
queueing_unheld me Event.PrependGone None l = refl
queueing_unheld me Event.HomeWrite (Some x) l = refl
queueing_unheld me Event.HomeWrite None l = refl
queueing_unheld me _ f l = refl

fetching_unheld : (me : ℕ) (f : Option ℕ) (d : Bool) (k : Line) (e : Event) (l : Line) → is_held ((fetching_row me f d k e).after l) ≡ false
fetching_unheld me f d k Event.ReturnMemory l = refl
fetching_unheld me f d k _ l = refl

in_queue_unheld : (me : ℕ) (e : Event) (f : Option ℕ) (d : Bool) (c : Option Line) (l : Line) → is_held ((in_queue_row me e f d c).after l) ≡ false
in_queue_unheld me (Event.AttachFresh t) (Some x) d (Some k) l = refl
in_queue_unheld me (Event.AttachFresh t) (Some x) d None l = refl
in_queue_unheld me (Event.AttachFresh t) None d c l = refl
in_queue_unheld me (Event.AttachDirty t) (Some x) d None l = refl
in_queue_unheld me (Event.AttachDirty t) (Some x) d (Some k) l = refl
in_queue_unheld me (Event.AttachDirty t) None d c l = refl
in_queue_unheld me Event.Settle None d (Some k) l = refl
in_queue_unheld me Event.Settle None d None l = refl
in_queue_unheld me Event.Settle (Some x) d c l = refl
in_queue_unheld me _ f d c l = refl

copying_unheld : (x : ℕ) (w : Tag) (k : Line) (e : Event) (l : Line) → is_held ((copying_row x w k e).after l) ≡ false
copying_unheld x w k Event.ReturnCopy l = refl
copying_unheld x w k _ l = refl

ready_unheld : (me : ℕ) (f : Option ℕ) (d : Bool) (k : Line) (e : Event) (l : Line) → is_held ((ready_row me f d k e).after l) ≡ false
ready_unheld me f d k Event.Settle l = refl
ready_unheld me f d k _ l = refl

converting_unheld : (me : ℕ) (f : Option ℕ) (e : Event) (l : Line) → is_held ((converting_row me f e).after l) ≡ false
converting_unheld me f Event.FreshToGone l = refl
converting_unheld me f Event.Converted l = refl
converting_unheld me f Event.Unconverted l = refl
converting_unheld me f _ l = refl

purging_unheld : (me : ℕ) (k : Line) (e : Event) (seen : Option (Option ℕ)) (l : Line) → is_held ((purging_row me k e seen).after l) ≡ false
purging_unheld me k (Event.Written words) seen l = refl
purging_unheld me k (Event.PurgeOne t) (Some (Some x)) l = refl
purging_unheld me k (Event.PurgeOne t) (Some None) l = refl
purging_unheld me k (Event.PurgeOne t) None l = refl
purging_unheld me k (Event.Adopt t) (Some (Some x)) l = refl
purging_unheld me k (Event.Adopt t) (Some None) l = refl
purging_unheld me k (Event.Adopt t) None l = refl
purging_unheld me k _ seen l = refl

advancing_unheld : (me : ℕ) (k : Line) (x : ℕ) (w : Tag) (e : Event) (l : Line) → is_held ((advancing_row me k x w e).after l) ≡ false
advancing_unheld me k x w Event.Advance l = refl
advancing_unheld me k x w _ l = refl

clearing_unheld : (k : Line) (x : ℕ) (w : Tag) (e : Event) (l : Line) → is_held ((clearing_row k x w e).after l) ≡ false
clearing_unheld k x w Event.Clear l = refl
clearing_unheld k x w _ l = refl

leaving_unheld : (me : ℕ) (d : Bool) (k : Line) (e : Event) (seen : Option (Option ℕ)) (l : Line) → is_held ((leaving_row me d k e seen).after l) ≡ false
leaving_unheld me d k (Event.Promote t) (Some (Some x)) l = refl
leaving_unheld me d k (Event.Promote t) (Some None) l = refl
leaving_unheld me d k (Event.Promote t) None l = refl
leaving_unheld me d k Event.Stay (Some f) l = refl
leaving_unheld me d k Event.Stay None l = refl
leaving_unheld me d k Event.ReturnHomeFresh (Some (Some x)) l = refl
leaving_unheld me d k Event.ReturnHomeFresh (Some None) l = refl
leaving_unheld me d k Event.ReturnHomeFresh None l = refl
leaving_unheld me d k Event.ReturnHomeDirty (Some (Some x)) l = refl
leaving_unheld me d k Event.ReturnHomeDirty (Some None) l = refl
leaving_unheld me d k Event.ReturnHomeDirty None l = refl
leaving_unheld me d k _ seen l = refl

promoted_unheld : (me : ℕ) (d : Bool) (k : Line) (x : ℕ) (e : Event) (l : Line) → is_held ((promoted_row me d k x e).after l) ≡ false
promoted_unheld me d k x Event.PassOn l = refl
promoted_unheld me d k x Event.ReEnter l = refl
promoted_unheld me d k x _ l = refl

writing_back_unheld : (k : Line) (e : Event) (l : Line) → is_held ((writing_back_row k e).after l) ≡ false
writing_back_unheld k Event.ReturnMemory l = refl
writing_back_unheld k _ l = refl

parted_unheld : (me : ℕ) (f : Option ℕ) (e : Event) (l : Line) → is_held ((parted_row me f e).after l) ≡ false
parted_unheld me f Event.Left l = refl
parted_unheld me f _ l = refl

rolling_unheld : (e : Event) (seen : Option (Option ℕ × ℕ)) (l : Line) → is_held ((rolling_row e seen).after l) ≡ false
rolling_unheld (Event.TellSuccessor t) (Some (Some x, b)) l = refl
rolling_unheld (Event.TellSuccessor t) (Some (None, b)) l = refl
rolling_unheld (Event.TellSuccessor t) None l = refl
rolling_unheld (Event.TellPredecessor t) (Some (f, b)) l = refl
rolling_unheld (Event.TellPredecessor t) None l = refl
rolling_unheld _ seen l = refl

unlinked_unheld : (me : ℕ) (f : Option ℕ) (b : ℕ) (e : Event) (l : Line) → is_held ((unlinked_row me f b e).after l) ≡ false
unlinked_unheld me f b Event.Rolled l = refl
unlinked_unheld me f b _ l = refl

pub row_unheld : (me : ℕ) (p : Pending) (e : Event) (l : Line) → is_hold e ≡ false → is_held ((row_of me p e).after l) ≡ false
row_unheld me Pending.Idle e l h = idle_unheld me e l h
row_unheld me (Pending.Holding w k) e l h = holding_unheld me w k e l
row_unheld me (Pending.Queueing f) e l h = queueing_unheld me e f l
row_unheld me (Pending.Fetching f d k) e l h = fetching_unheld me f d k e l
row_unheld me (Pending.InQueue f d c) e l h = in_queue_unheld me e f d c l
row_unheld me (Pending.Copying x w k) e l h = copying_unheld x w k e l
row_unheld me (Pending.Ready f d k) e l h = ready_unheld me f d k e l
row_unheld me (Pending.Converting f turned) e l h = converting_unheld me f e l
row_unheld me (Pending.Purging k seen) e l h = purging_unheld me k e seen l
row_unheld me (Pending.Advancing k x w) e l h = advancing_unheld me k x w e l
row_unheld me (Pending.Clearing k x w) e l h = clearing_unheld k x w e l
row_unheld me (Pending.Leaving d k seen) e l h = leaving_unheld me d k e seen l
row_unheld me (Pending.Promoted d k x) e l h = promoted_unheld me d k x e l
row_unheld me (Pending.WritingBack k) e l h = writing_back_unheld k e l
row_unheld me (Pending.Parted f) e l h = parted_unheld me f e l
row_unheld me (Pending.Rolling told seen) e l h = rolling_unheld e seen l
row_unheld me (Pending.Unlinked f b) e l h = unlinked_unheld me f b e l
