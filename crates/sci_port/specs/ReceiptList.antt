-- What contracts see of a node's `Receipts` on a line, and what a call leaves in them. This project's profile.
use Rattle.std.specs.Prelude.{◌≡◌, ℕ, suc, ◌+◌, ◌<◌, ltb, Bool, true, false, ◌&&◌, ◌||◌, Option, Some, List, [], ◌∷◌, ◌++◌}
use Rattle.sci_core.specs.declared.lines.Line.{Line}
use Rattle.sci_core.specs.declared.pending.Pending.{Pending}
use Rattle.sci_core.specs.declared.events.Event.{Event}
use Rattle.sci_core.specs.declared.outcomes.Outcome.{Outcome}
use Rattle.sci_core.specs.declared.receipts.Receipt.{Receipt}
use Rattle.sci_core.specs.declared.receipts.Receipt.TheVariants.{Read, Passed, Wrote}
use Rattle.sci_core.specs.State.{blank}
use Rattle.sci_port.specs.declared.calls.Call.{Call}
use Rattle.sci_port.specs.declared.calls.Call.TheVariants.{Stepped}
use Rattle.sci_port.specs.KeepsTo.{apart, is_passed, keeps_told}
use Rattle.sci_port.specs.Shown.{told_in, kept_in, HasKept}

-- the receipts, the mark (whether the next settle is only passed), and for how many more receipts there is room
pub record ReceiptList : Type 0 where
  pub list : List Receipt
  pub passing : Bool
  pub room : ℕ

-- the last receipt is a Passed
abbrev pub last_passed : List Receipt → Bool
last_passed [] = false
last_passed (r ∷ []) = is_passed r
last_passed (r ∷ s ∷ rs) = last_passed (s ∷ rs)

-- the next settle takes the place of the last receipt
abbrev pub replaces : ReceiptList → Bool
replaces s = s.passing && last_passed s.list

-- one more receipt, and room for one less
pub record Appends (s : ReceiptList) (r : Receipt) (t : ReceiptList) : Type 0 where
  pub list : t.list ≡ s.list ++ r ∷ []
  pub passing : t.passing ≡ s.passing
  pub room : s.room ≡ suc t.room

-- the last receipt, a Passed, gives way to this one
pub record Replaces (s : ReceiptList) (r : Receipt) (t : ReceiptList) : Type 0 where
  pub before : List Receipt
  pub last : Receipt
  pub was : s.list ≡ before ++ last ∷ []
  pub passed : is_passed last ≡ true
  pub list : t.list ≡ before ++ r ∷ []
  pub passing : t.passing ≡ s.passing
  pub room : t.room ≡ s.room

-- a settle that answers this line: by the mark, and by whether the last receipt is a Passed
abbrev pub Settles : Bool → Bool → ReceiptList → Line → ReceiptList → Type 0
Settles false last s line t = Appends s (Read line.words line.stamp) t
Settles true false s line t = Appends s (Passed line.words line.stamp) t
Settles true true s line t = Replaces s (Passed line.words line.stamp) t

-- a write over the line that the step keeps
abbrev pub Writes : Pending → List ℕ → ReceiptList → ReceiptList → Type 0
Writes (Pending.Purging line seen) words s t = Appends s (Wrote line.words words (line.stamp + 1)) t
Writes p words s t = t ≡ s

-- what a call from a pending step leaves in the receipts
abbrev pub Receives : Pending → Call → ReceiptList → ReceiptList → Type 0
Receives p (Stepped Event.Unhold (Outcome.Done (Some line))) s t = Appends s (Read line.words line.stamp) t
Receives p (Stepped Event.Settle (Outcome.Done (Some line))) s t = Settles s.passing (last_passed s.list) s line t
Receives p (Stepped (Event.Written (Some words)) (Outcome.Done answer)) s t = Writes p words s t
Receives p call s t = t ≡ s

-- an event that writes is to write over this line, from this step
abbrev pub WritesOver : Pending → Event → Line → Type 0
WritesOver p (Event.Written (Some words)) line = (seen : Option (Option ℕ)) × (p ≡ Pending.Purging line seen)
WritesOver p e line = Unit {0}

-- and the line's stamp can count the write
abbrev pub CountsOver : Event → Line → Type 0
CountsOver (Event.Written (Some words)) line = line.stamp < 18446744073709551615
CountsOver e line = Unit {0}

-- the line that a write from this step replaces, if it writes
abbrev pub line_before : Pending → Line
line_before (Pending.Purging line seen) = line
line_before p = blank

-- there is room for the receipt of an event
abbrev pub HasRoom : Event → ReceiptList → Type 0
HasRoom Event.Unhold s = 0 < s.room
HasRoom Event.Settle s = replaces s ≡ false → 0 < s.room
HasRoom (Event.Written (Some words)) s = 0 < s.room
HasRoom e s = Unit {0}

-- there is room for the receipt of a call
abbrev pub HasRoomFor : Call → ReceiptList → Type 0
HasRoomFor (Stepped e outcome) s = HasRoom e s
HasRoomFor call s = Unit {0}

-- what a call of a port leaves in them: where there is room for its receipt what it is to leave, and else all as it was
pub record ReceivesIfRoom (p : Pending) (call : Call) (s t : ReceiptList) : Type 0 where
  pub kept : HasRoomFor call s → Receives p call s t
  pub full : (HasRoomFor call s → ⊥) → t ≡ s

-- an event has a receipt, and there is room for it
abbrev pub has_room_for : Event → ReceiptList → Bool
has_room_for Event.Unhold s = ltb 0 s.room
has_room_for Event.Settle s = ltb 0 s.room || replaces s
has_room_for (Event.Written (Some words)) s = ltb 0 s.room
has_room_for e s = false

-- these are the receipts of a node in this step, all of whose calls are these
pub record AreReceiptsOf (log : List (ℕ × Call)) (p : Pending) (s : ReceiptList) : Type 0 where
  pub keeps : keeps_told s.list (told_in blank log) ≡ true
  pub lone : apart s.list ≡ true
  pub kept : HasKept p (kept_in blank log)
