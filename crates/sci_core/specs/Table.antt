-- The table of exchanges: which event a pending step allows, and its row. This project's profile of IEEE Std 1596-1992.
pub mod Idle
pub mod Queueing
pub mod InQueue
pub mod Converting
pub mod Purging
pub mod Leaving
pub mod Rolling
use Rattle.std.specs.Prelude.{ℕ, Bool, true}
use Rattle.sci_core.specs.declared.pending.Pending.{Pending}
use Rattle.sci_core.specs.declared.events.Event.{Event}
use Rattle.sci_core.specs.Row.{Row}
use Rattle.sci_core.specs.Table.Idle.{idle_allows, idle_row, holding_allows, holding_row}
use Rattle.sci_core.specs.Table.Queueing.{queueing_allows, queueing_row, fetching_allows, fetching_row}
use Rattle.sci_core.specs.Table.InQueue.{in_queue_allows, in_queue_row, copying_allows, copying_row, ready_allows, ready_row}
use Rattle.sci_core.specs.Table.Converting.{converting_allows, converting_row}
use Rattle.sci_core.specs.Table.Purging.{purging_allows, purging_row, advancing_allows, advancing_row, clearing_allows, clearing_row}
use Rattle.sci_core.specs.Table.Leaving.{leaving_allows, leaving_row, promoted_allows, promoted_row, writing_back_allows, writing_back_row, parted_allows, parted_row}
use Rattle.sci_core.specs.Table.Rolling.{rolling_allows, rolling_row, unlinked_allows, unlinked_row}

-- the event is an exchange that the pending step allows to the node me, one of n
abbrev pub has_row : ℕ → ℕ → Pending → Event → Bool
has_row n me Pending.Idle e = idle_allows n e
has_row n me (Pending.Holding w l) e = holding_allows e
has_row n me (Pending.Queueing f) e = queueing_allows n f e
has_row n me (Pending.Fetching f d l) e = fetching_allows e
has_row n me (Pending.InQueue f d c) e = in_queue_allows e f d c
has_row n me (Pending.Copying x w l) e = copying_allows e
has_row n me (Pending.Ready f d l) e = ready_allows e
has_row n me (Pending.Converting f turned) e = converting_allows turned e
has_row n me (Pending.Purging l seen) e = purging_allows me l e seen
has_row n me (Pending.Advancing l x w) e = advancing_allows e
has_row n me (Pending.Clearing l x w) e = clearing_allows e
has_row n me (Pending.Leaving d l seen) e = leaving_allows me d e seen
has_row n me (Pending.Promoted d l x) e = promoted_allows e
has_row n me (Pending.WritingBack l) e = writing_back_allows e
has_row n me (Pending.Parted f) e = parted_allows e
has_row n me (Pending.Rolling told seen) e = rolling_allows me told e seen
has_row n me (Pending.Unlinked f b) e = unlinked_allows e

-- the row of the event
abbrev pub row_of : ℕ → Pending → Event → Row
row_of me Pending.Idle e = idle_row me e
row_of me (Pending.Holding w l) e = holding_row me w l e
row_of me (Pending.Queueing f) e = queueing_row me e f
row_of me (Pending.Fetching f d l) e = fetching_row me f d l e
row_of me (Pending.InQueue f d c) e = in_queue_row me e f d c
row_of me (Pending.Copying x w l) e = copying_row x w l e
row_of me (Pending.Ready f d l) e = ready_row me f d l e
row_of me (Pending.Converting f turned) e = converting_row me f e
row_of me (Pending.Purging l seen) e = purging_row me l e seen
row_of me (Pending.Advancing l x w) e = advancing_row me l x w e
row_of me (Pending.Clearing l x w) e = clearing_row l x w e
row_of me (Pending.Leaving d l seen) e = leaving_row me d l e seen
row_of me (Pending.Promoted d l x) e = promoted_row me d l x e
row_of me (Pending.WritingBack l) e = writing_back_row l e
row_of me (Pending.Parted f) e = parted_row me f e
row_of me (Pending.Rolling told seen) e = rolling_row e seen
row_of me (Pending.Unlinked f b) e = unlinked_row me f b e
