-- Calls of a port that ready a node's receipts, and what they leave in them. They reach no line. This project's profile.
use Rattle.std.specs.Prelude.{◌≡◌, ◌≢◌, ℕ, ◌≤◌, Bool, true, false, List, [], slice_index_or}
use Rattle.sci_port.specs.ReceiptList.{ReceiptList}

-- room was asked for so many more, and was there or not; or the mark was set so
pub data Readying : Type 0 where
  Reserved : (n : ℕ) → (ok : Bool) → Readying
  Aimed : (passing : Bool) → Readying

-- room for n more, at least; or there was none to be had, and all is as before
pub record Reserves (n : ℕ) (ok : Bool) (s t : ReceiptList) : Type 0 where
  pub list : t.list ≡ s.list
  pub passing : t.passing ≡ s.passing
  pub grows : s.room ≤ t.room
  pub room : ok ≡ true → n ≤ t.room
  pub refused : ok ≡ false → t.room ≡ s.room
  pub enough : n ≤ s.room → ok ≡ true

-- the mark is set so, and nothing else
pub record Aims (passing : Bool) (s t : ReceiptList) : Type 0 where
  pub list : t.list ≡ s.list
  pub mark : t.passing ≡ passing
  pub room : t.room ≡ s.room

abbrev pub Readies : Readying → ReceiptList → ReceiptList → Type 0
Readies (Reserved n ok) s t = Reserves n ok s t
Readies (Aimed passing) s t = Aims passing s t

-- the receipts on one line change so, and those on the others stay
pub record ChangesAt (changes : ReceiptList → ReceiptList → Type 0) (before : ℕ → ReceiptList) (line : ℕ) (after : ℕ → ReceiptList) : Type 0 where
  pub here : changes (before line) (after line)
  pub others : (m : ℕ) → m ≢ line → after m ≡ before m

-- no receipts, no room, and the mark not set
abbrev pub no_receipts : ReceiptList
no_receipts = record { list = []; passing = false; room = 0 }

-- those on a line, where there is a list for each
abbrev pub receipts_at : List ReceiptList → ℕ → ReceiptList
receipts_at lists line = slice_index_or lists line no_receipts
