-- Where there is room for an event's receipt.
use Rattle.std.proofs.Common.{◌≡◌, ◌<◌, true, Some, None}
use Rattle.sci_core.specs.declared.lines.Line.{Line}
use Rattle.sci_core.specs.declared.events.Event.{Event}
use Rattle.sci_port.proofs.Elements.{clash}
use Rattle.sci_port.proofs.Tested.{and_true}
use Rattle.sci_port.specs.ReceiptList.{ReceiptList, HasRoom, CountsOver, last_passed, replaces}

-- room for one is room for any event's
pub has_room : (e : Event) (s : ReceiptList) → 0 < s.room → HasRoom e s
has_room Event.Unhold s h = h
has_room Event.Settle s h = λ k. h
has_room (Event.Written (Some words)) s h = h
has_room (Event.Written None) s h = tt
has_room _ s h = tt

-- a line that can count one more write can count any event's
pub counts_over : (e : Event) (l : Line) → l.stamp < 18446744073709551615 → CountsOver e l
counts_over (Event.Written (Some words)) l h = h
counts_over (Event.Written None) l h = tt
counts_over _ l h = tt

-- a settle that is to be passed has the place of a last one that was
pub has_place : (s : ReceiptList) → s.passing ≡ true → last_passed s.list ≡ true → HasRoom Event.Settle s
has_place s passing last k = absurd (clash (replaces s) (and_true s.passing (last_passed s.list) passing last) k)
