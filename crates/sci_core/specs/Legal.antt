-- Receipts of all nodes of a line that are one history of it: coherence, as Culler and Singh have it. This project's profile.
use Rattle.std.specs.Prelude.{◌≡◌, ℕ, ◌+◌, ◌<◌, ◌≤◌, Bool, true, false, List}
use mathlib.Core.Option.{some}
use lib.ListN.{get_elem?}
use Rattle.sci_core.specs.declared.lines.Line.{Line}
use Rattle.sci_core.specs.declared.receipts.Receipt.{Receipt}
use Rattle.sci_core.specs.declared.receipts.Receipt.TheVariants.{Read, Passed, Wrote}

-- the stamp that it shows; of a write that of the words written
abbrev pub stamp_of : Receipt → ℕ
stamp_of (Read words stamp) = stamp
stamp_of (Passed words stamp) = stamp
stamp_of (Wrote before words stamp) = stamp

abbrev pub is_write : Receipt → Bool
is_write (Wrote before words stamp) = true
is_write _ = false

-- it shows the words that the history has at its stamp, from the first stamp up to the last; a write also those one stamp below
abbrev pub IsShown : (ℕ → List ℕ) → ℕ → ℕ → Receipt → Type 0
IsShown history first last (Read words stamp) = (first ≤ stamp) × (stamp ≤ last) × (history stamp ≡ words)
IsShown history first last (Passed words stamp) = (first ≤ stamp) × (stamp ≤ last) × (history stamp ≡ words)
IsShown history first last (Wrote before words stamp) = (k : ℕ) × (stamp ≡ k + 1) × (first ≤ k) × (k < last) × (history k ≡ before) × (history (k + 1) ≡ words)

-- the lists, one for each node, are one history of a line, from its opening to this value
pub record IsLegal (opening value : Line) (lists : ℕ → List Receipt) : Type 0 where
  -- the words by their stamps: the opening line's at first, the value's at last, and each receipt shows these
  pub history : ℕ → List ℕ
  pub rises : opening.stamp ≤ value.stamp
  pub first : history opening.stamp ≡ opening.words
  pub last : history value.stamp ≡ value.words
  pub shown : (j p : ℕ) (r : Receipt) → get_elem? (lists j) p ≡ some r → IsShown history opening.stamp value.stamp r
  -- in each node's list stamps never fall, and a write's is above all earlier ones
  pub ordered : (j p q : ℕ) (r s : Receipt) → p < q → get_elem? (lists j) p ≡ some r → get_elem? (lists j) q ≡ some s → (stamp_of r ≤ stamp_of s) × (is_write s ≡ true → stamp_of r < stamp_of s)
  -- each stamp above the opening line's, up to the value's, is that of a write, and no two writes have one stamp
  pub written : (k : ℕ) → opening.stamp ≤ k → k < value.stamp → (j : ℕ) × (p : ℕ) × (r : Receipt) × (get_elem? (lists j) p ≡ some r) × (is_write r ≡ true) × (stamp_of r ≡ k + 1)
  pub once : (i j p q : ℕ) (r s : Receipt) → get_elem? (lists i) p ≡ some r → get_elem? (lists j) q ≡ some s → is_write r ≡ true → is_write s ≡ true → stamp_of r ≡ stamp_of s → (i ≡ j) × (p ≡ q)
