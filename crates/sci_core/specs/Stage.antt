-- A pending step without its line, and the line in the node's own slot. This project's profile.
use Rattle.std.specs.Prelude.{Bool, true, false, cond, Some, None, is_some}
use Rattle.sci_core.specs.declared.lines.Line.{Line}
use Rattle.sci_core.specs.declared.pending.Pending.{Pending}
use Rattle.sci_core.specs.declared.stages.Stage.{Stage}
use Rattle.sci_core.specs.declared.events.Event.{Event}
use Rattle.sci_core.specs.declared.rows.Place.{Place}
use Rattle.sci_core.specs.declared.rows.Carry.{Carry}
use Rattle.sci_core.specs.declared.rows.Exchange.{Exchange}
use Rattle.sci_core.specs.declared.outlines.Motion.{Motion}
use Rattle.sci_core.specs.declared.outlines.Outline.{Outline}
use Rattle.sci_core.specs.State.{blank}
use Rattle.sci_core.specs.Row.{Row}
use Rattle.sci_core.specs.Table.Purging.{written}

-- the pending step that keeps this line, where it keeps one
abbrev pub pending_of : Stage → Line → Pending
pending_of Stage.Idle l = Pending.Idle
pending_of (Stage.Holding w) l = Pending.Holding w l
pending_of (Stage.Queueing f) l = Pending.Queueing f
pending_of (Stage.Fetching f d) l = Pending.Fetching f d l
pending_of (Stage.InQueue f d c) l = Pending.InQueue f d (cond c (Some l) None)
pending_of (Stage.Copying f w) l = Pending.Copying f w l
pending_of (Stage.Ready f d) l = Pending.Ready f d l
pending_of (Stage.Converting f t) l = Pending.Converting f t
pending_of (Stage.Purging seen) l = Pending.Purging l seen
pending_of (Stage.Advancing x w) l = Pending.Advancing l x w
pending_of (Stage.Clearing x w) l = Pending.Clearing l x w
pending_of (Stage.Leaving d seen) l = Pending.Leaving d l seen
pending_of (Stage.Promoted d x) l = Pending.Promoted d l x
pending_of Stage.WritingBack l = Pending.WritingBack l
pending_of (Stage.Parted f) l = Pending.Parted f
pending_of (Stage.Rolling t seen) l = Pending.Rolling t seen
pending_of (Stage.Unlinked f b) l = Pending.Unlinked f b

abbrev pub stage_of : Pending → Stage
stage_of Pending.Idle = Stage.Idle
stage_of (Pending.Holding w l) = Stage.Holding w
stage_of (Pending.Queueing f) = Stage.Queueing f
stage_of (Pending.Fetching f d l) = Stage.Fetching f d
stage_of (Pending.InQueue f d c) = Stage.InQueue f d (is_some c)
stage_of (Pending.Copying f w l) = Stage.Copying f w
stage_of (Pending.Ready f d l) = Stage.Ready f d
stage_of (Pending.Converting f t) = Stage.Converting f t
stage_of (Pending.Purging l seen) = Stage.Purging seen
stage_of (Pending.Advancing l x w) = Stage.Advancing x w
stage_of (Pending.Clearing l x w) = Stage.Clearing x w
stage_of (Pending.Leaving d l seen) = Stage.Leaving d seen
stage_of (Pending.Promoted d l x) = Stage.Promoted d x
stage_of (Pending.WritingBack l) = Stage.WritingBack
stage_of (Pending.Parted f) = Stage.Parted f
stage_of (Pending.Rolling t seen) = Stage.Rolling t seen
stage_of (Pending.Unlinked f b) = Stage.Unlinked f b

abbrev pub motion_of : Carry → Motion
motion_of Carry.Stays = Motion.Stays
motion_of (Carry.Takes x) = Motion.Takes x
motion_of (Carry.Gives x l) = Motion.Gives x

-- a row, but for lines
abbrev pub outline_of : Row → Outline
outline_of r = record { change = r.change; motion = motion_of r.carry; after = stage_of (r.after blank); answers = is_some (r.answer blank) }

abbrev pub is_fetching : Stage → Bool
is_fetching (Stage.Fetching f d) = true
is_fetching _ = false

-- the own bytes as they are given back
abbrev pub given : Event → Line → Line
given Event.Left l = blank
given (Event.Written words) l = written l words
given _ l = l

-- the own bytes after an exchange, from those before and those of the slot that is taken
abbrev pub own_after : Motion → Stage → Event → Line → Line → Line
own_after Motion.Stays after e l y = l
own_after (Motion.Takes Place.Memory) after e l y = cond (is_fetching after) y l
own_after (Motion.Takes (Place.Node x)) after e l y = y
own_after (Motion.Gives x) after e l y = given e l

abbrev pub carry_with : Motion → Line → Carry
carry_with Motion.Stays l = Carry.Stays
carry_with (Motion.Takes x) l = Carry.Takes x
carry_with (Motion.Gives x) l = Carry.Gives x l

-- the exchange of an outline, with the own bytes after it
abbrev pub filled : Outline → Line → Exchange
filled o l = record { change = o.change; carry = carry_with o.motion l; after = pending_of o.after l; answer = cond o.answers (Some l) None }
