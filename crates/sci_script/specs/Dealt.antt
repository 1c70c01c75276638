-- Seats of lines: those of each line in a pile, and a hand with one at each line. For tests.
use Rattle.std.specs.Prelude.{◌≡◌, ℕ, List}
use mathlib.Core.Option.{some}
use lib.ListN.{get_elem?}

-- the line at each place has so many nodes, and its place as its number
abbrev pub AreShared : {L : Type 0} → (L → ℕ → ℕ → Type 0) → ℕ → List L → Type 0
AreShared {L} is nodes lines = (k : ℕ) (l : L) → get_elem? lines k ≡ some l → is l nodes k

module _ {L S : Type 0} (of : L → S → Type 0) where
  -- each is a seat of this line
  abbrev pub AreSeats : L → List S → Type 0
  AreSeats l seats = (k : ℕ) (s : S) → get_elem? seats k ≡ some s → of l s

  -- the seat at each place is one of the line there
  abbrev pub AreDealt : List L → List S → Type 0
  AreDealt lines hand = (k : ℕ) (l : L) (s : S) → get_elem? lines k ≡ some l → get_elem? hand k ≡ some s → of l s

  -- the pile at each place has seats of the line there
  abbrev pub ArePiled : {P : Type 0} → (P → List S) → List L → List P → Type 0
  ArePiled {P} items lines piles = (k : ℕ) (l : L) (p : P) → get_elem? lines k ≡ some l → get_elem? piles k ≡ some p → AreSeats l (items p)
