-- What the receipts of all nodes tell: one history of the line, whole; and what comes of it where all writes are alike. Coherence as
-- in Culler and Singh. This project's profile.
use Rattle.std.specs.Prelude.{◌≡◌, ℕ, zero, suc, ◌+◌, cond, List, [], ◌∷◌}
use mathlib.Core.Option.{some}
use lib.ListN.{get_elem?}
use Rattle.sci_core.specs.declared.lines.Line.{Line}
use Rattle.sci_core.specs.declared.receipts.Receipt.{Receipt}
use Rattle.sci_core.specs.declared.receipts.Receipt.TheVariants.{Wrote}
use Rattle.sci_core.specs.Legal.{is_write, IsLegal}

-- how many writes there are
abbrev pub writes_of : List Receipt → ℕ
writes_of [] = 0
writes_of (r ∷ rs) = cond (is_write r) 1 0 + writes_of rs

-- f 0 + f 1 + .. up to f (n - 1)
abbrev pub sum_below : ℕ → (ℕ → ℕ) → ℕ
sum_below zero f = 0
sum_below (suc n) f = sum_below n f + f n

-- the lists are one history, whole: the stamp at the end counts the writes in the lists of the nodes below n
pub record IsWhole (n : ℕ) (opening value : Line) (lists : ℕ → List Receipt) : Type 0 where
  pub legal : IsLegal opening value lists
  pub count : value.stamp ≡ opening.stamp + sum_below n (λ j. writes_of (lists j))

-- a write makes f of the words before it
abbrev pub WritesBy : (List ℕ → List ℕ) → Receipt → Type 0
WritesBy f (Wrote before words stamp) = words ≡ f before
WritesBy f r = Unit {0}

abbrev pub AllWriteBy : (List ℕ → List ℕ) → (ℕ → List Receipt) → Type 0
AllWriteBy f lists = (j p : ℕ) (r : Receipt) → get_elem? (lists j) p ≡ some r → WritesBy f r

-- f, so often
abbrev pub times : (List ℕ → List ℕ) → ℕ → List ℕ → List ℕ
times f zero words = words
times f (suc k) words = f (times f k words)
