-- What the receipts of a node tell of its writes. This project's own.
use Rattle.std.specs.Prelude.{◌≡◌, ℕ, ◌==◌, if◌then◌else◌, List, [], ◌∷◌, ◌++◌, map}
use Rattle.sci_core.specs.declared.receipts.Receipt.{Receipt}
use Rattle.sci_core.specs.declared.receipts.Receipt.TheVariants.{Read, Passed, Wrote}
use Rattle.sci_port.specs.KeepsAll.{writes_in}
use Rattle.sci_port.specs.ReceiptList.{ReceiptList}
use Rattle.sci_work.specs.Adding.{AreAdds}
use Rattle.sci_work.specs.Hands.{AtEach}

-- the words that a receipt tells: of a write those that it wrote
abbrev pub words_of : Receipt → List ℕ
words_of (Read words stamp) = words
words_of (Passed words stamp) = words
words_of (Wrote before words stamp) = words

-- the words of each write among receipts
abbrev pub words_in : List Receipt → List (List ℕ)
words_in list = map words_of (writes_in list)

-- of writes, the last in front, each with its line: the words of those on a line, the first in front
abbrev pub words_on : ℕ → List (ℕ × List ℕ) → List (List ℕ)
words_on line [] = []
words_on line (w ∷ ws) = words_on line ws ++ (if w.0 == line then w.1 ∷ [] else [])

-- on each line these writes are what a node's receipts have more than before, and no others
pub record HasWrote (ws : List (ℕ × List ℕ)) (before after : ℕ → ReceiptList) : Type 0 where
  pub on : (line : ℕ) → words_in (after line).list ≡ words_in (before line).list ++ words_on line ws

-- these receipts have so many adds of 1 to word 0 as writes, and no others
abbrev pub AddsAlone : ℕ → ℕ → ℕ → List Receipt → Type 0
AddsAlone adds node line list = AreAdds adds (writes_in list)

-- these receipts of a node on a line have of its writes those on that line, in order, and no others
abbrev pub WritesAlone : (ℕ → List (ℕ × List ℕ)) → ℕ → ℕ → List Receipt → Type 0
WritesAlone writes node line list = words_in list ≡ words_on line (writes node)

-- each node's list on each line is so
abbrev pub AreWrittenAs : (ℕ → ℕ → List Receipt → Type 0) → List (List (List Receipt)) → Type 0
AreWrittenAs own lists = AtEach (λ line ls. AtEach (λ node list. own node line list) ls) lists
