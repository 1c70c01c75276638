-- What the lines of a ring hold, and what its workers write there. This project's profile.
use Rattle.std.specs.Prelude.{◌≡◌, ℕ, zero, suc, ◌+◌, ◌%◌, ◌<◌, ◌≤◌, ◌⊎◌, List, [], ◌∷◌, length, replicate, slice_index}

-- the words of item j: its number, from 1, and its value
abbrev pub item_words : List ℕ → ℕ → List ℕ
item_words source j = (j + 1) ∷ slice_index source j ∷ replicate 6 0

-- the words that say how many items were consumed
abbrev pub count_words : ℕ → List ℕ
count_words count = count ∷ replicate 7 0

-- the line shows an item that belongs to it
pub record ShowsItem (source : List ℕ) (lines line : ℕ) (words : List ℕ) (j : ℕ) : Type 0 where
  pub inside : j < length source
  pub place : j % lines ≡ line
  pub words_are : words ≡ item_words source j

-- a line of a ring: below `lines` all zeros or an item, at `lines` how many were consumed, beyond all zeros
pub record FitsRing (source : List ℕ) (lines line : ℕ) (words : List ℕ) : Type 0 where
  pub item : line < lines → (words ≡ replicate 8 0) ⊎ ((j : ℕ) × ShowsItem source lines line words j)
  pub count : line ≡ lines → slice_index words 0 ≤ length source
  pub beyond : lines < line → words ≡ replicate 8 0

-- the fact is that of the ring of this source on so many lines
pub record IsRing (fits : ℕ → List ℕ → Type 0) (source : List ℕ) (lines : ℕ) : Type 0 where
  pub gives : (line : ℕ) (words : List ℕ) → fits line words → FitsRing source lines line words
  pub takes : (line : ℕ) (words : List ℕ) → FitsRing source lines line words → fits line words

-- the fact is that of a ring of at least n items
pub record IsRingOf (fits : ℕ → List ℕ → Type 0) (n lines : ℕ) : Type 0 where
  pub source : List ℕ
  pub ring : IsRing fits source lines
  pub enough : n ≤ length source

-- a ring of so many items over so many lines is within the limits
abbrev pub IsRingSize : ℕ → ℕ → Type 0
IsRingSize items lines = (items ≤ 100000) × (1 ≤ lines) × (lines ≤ 1023)

-- and its nodes may name so many lines
abbrev pub IsRingRun : ℕ → ℕ → ℕ → Type 0
IsRingRun items lines capacity = IsRingSize items lines × (1 ≤ capacity) × (capacity ≤ 1024)

-- the writes of the first i items, the last in front: the line, and its words
abbrev pub item_writes : List ℕ → ℕ → ℕ → List (ℕ × List ℕ)
item_writes source lines zero = []
item_writes source lines (suc i) = (i % lines, item_words source i) ∷ item_writes source lines i

-- the writes that count the first i items as consumed, the last in front
abbrev pub count_writes : ℕ → ℕ → List (ℕ × List ℕ)
count_writes lines zero = []
count_writes lines (suc i) = (lines, count_words (i + 1)) ∷ count_writes lines i

-- node 0 writes all items, and the other counts them
abbrev pub ring_writes : List ℕ → ℕ → ℕ → List (ℕ × List ℕ)
ring_writes source lines zero = item_writes source lines (length source)
ring_writes source lines (suc node) = count_writes lines (length source)
