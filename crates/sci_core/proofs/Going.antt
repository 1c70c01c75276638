-- An event that is allowed and finds its word keeps the law, and the slot that it takes is at home.
pub mod Facts
pub mod Forms
pub mod Idle
pub mod Queueing
pub mod InQueue
pub mod Converting
pub mod Purging
pub mod Leaving
pub mod Rolling
use Rattle.std.proofs.Common.{◌≡◌, ℕ, true}
use Rattle.sci_core.specs.declared.pending.Pending.{Pending}
use Rattle.sci_core.specs.declared.events.Event.{Event}
use Rattle.sci_core.specs.State.{State}
use Rattle.sci_core.specs.Law.{Witness}
use Rattle.sci_core.specs.Table.{has_row, row_of}
use Rattle.sci_core.proofs.Going.Forms.{Going, Turn, FindsRow}
use Rattle.sci_core.proofs.Going.Idle.{idle_goes, holding_goes}
use Rattle.sci_core.proofs.Going.Queueing.{queueing_goes, fetching_goes}
use Rattle.sci_core.proofs.Going.InQueue.{in_queue_goes, copying_goes, ready_goes}
use Rattle.sci_core.proofs.Going.Converting.{converting_goes}
use Rattle.sci_core.proofs.Going.Purging.{purging_goes, advancing_goes, clearing_goes}
use Rattle.sci_core.proofs.Going.Leaving.{leaving_goes, promoted_goes, writing_back_goes, parted_goes}
use Rattle.sci_core.proofs.Going.Rolling.{rolling_goes, unlinked_goes}

pub goes : (n : ℕ) (s : State) (g : Witness) (me : ℕ) (p : Pending) (e : Event) → Turn n s g me p → has_row n me p e ≡ true → FindsRow s (row_of me p e) → Going n s g me e (row_of me p e)
goes n s g me Pending.Idle e t allowed finds = idle_goes n s g me e t allowed finds
goes n s g me (Pending.Holding w l) e t allowed finds = holding_goes n s g me w l e t allowed finds
goes n s g me (Pending.Queueing f) e t allowed finds = queueing_goes n s g me f e t allowed finds
goes n s g me (Pending.Fetching f d l) e t allowed finds = fetching_goes n s g me f d l e t allowed finds
goes n s g me (Pending.InQueue f d c) e t allowed finds = in_queue_goes n s g me e f d c t allowed finds
goes n s g me (Pending.Copying x w l) e t allowed finds = copying_goes n s g me x w l e t allowed finds
goes n s g me (Pending.Ready f d l) e t allowed finds = ready_goes n s g me f d l e t allowed finds
goes n s g me (Pending.Converting f turned) e t allowed finds = converting_goes n s g me f turned e t allowed finds
goes n s g me (Pending.Purging l seen) e t allowed finds = purging_goes n s g me l e seen t allowed finds
goes n s g me (Pending.Advancing l x w) e t allowed finds = advancing_goes n s g me l x w e t allowed finds
goes n s g me (Pending.Clearing l x w) e t allowed finds = clearing_goes n s g me l x w e t allowed finds
goes n s g me (Pending.Leaving d l seen) e t allowed finds = leaving_goes n s g me d l e seen t allowed finds
goes n s g me (Pending.Promoted d l x) e t allowed finds = promoted_goes n s g me d l x e t allowed finds
goes n s g me (Pending.WritingBack l) e t allowed finds = writing_back_goes n s g me l e t allowed finds
goes n s g me (Pending.Parted f) e t allowed finds = parted_goes n s g me f e t allowed finds
goes n s g me (Pending.Rolling told seen) e t allowed finds = rolling_goes n s g me told e seen t allowed finds
goes n s g me (Pending.Unlinked f b) e t allowed finds = unlinked_goes n s g me f b e t allowed finds
