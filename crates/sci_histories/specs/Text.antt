-- The text of a history. This project's profile.
use Rattle.std.specs.Prelude.{ℕ, ◌+◌, List, [], ◌∷◌, ◌++◌, length, codes}
use Rattle.std.specs.Fmt.{decimal}
use Rattle.sci_core.specs.declared.receipts.Receipt.{Receipt}
use Rattle.sci_core.specs.declared.receipts.Receipt.TheVariants.{Read, Passed, Wrote}
use Rattle.sci_dump.specs.Text.{values_text}
use Rattle.sci_histories.specs.Histories.{LineReceipts}

-- a label, a number, a stamp and eight words
unfoldable pub row_text : List ℕ → ℕ → ℕ → List ℕ → List ℕ
row_text label number stamp words = label ++ decimal number ++ values_text (stamp ∷ words)

-- `read N`, `passed N` or `wrote N`, the stamp and the words; of a write then `over` and the words before
unfoldable pub receipt_text : ℕ → Receipt → List ℕ
receipt_text node (Read words stamp) = row_text (codes "read ") node stamp words ++ codes "\n"
receipt_text node (Passed words stamp) = row_text (codes "passed ") node stamp words ++ codes "\n"
receipt_text node (Wrote before words stamp) = row_text (codes "wrote ") node stamp words ++ codes " over" ++ values_text before ++ codes "\n"

-- the receipts of a node
unfoldable pub list_text : ℕ → List Receipt → List ℕ
list_text node [] = []
list_text node (r ∷ rs) = receipt_text node r ++ list_text node rs

-- those of the nodes from this one on
unfoldable pub lists_text : ℕ → List (List Receipt) → List ℕ
lists_text node [] = []
lists_text node (l ∷ ls) = list_text node l ++ lists_text (node + 1) ls

-- `line L` with the opening content, `closed L` with the closing one, and the receipts
unfoldable pub line_text : ℕ → LineReceipts → List ℕ
line_text number h = row_text (codes "line ") number h.opening.stamp h.opening.words ++ codes "\n" ++ row_text (codes "closed ") number h.closing.stamp h.closing.words ++ codes "\n" ++ lists_text 0 h.lists

-- the lines from this one on
unfoldable pub lines_text : ℕ → List LineReceipts → List ℕ
lines_text number [] = []
lines_text number (h ∷ hs) = line_text number h ++ lines_text (number + 1) hs

-- a whole history
unfoldable pub history_text : ℕ → List LineReceipts → List ℕ
history_text nodes hs = codes "scihistory 1 " ++ decimal nodes ++ codes " " ++ decimal (length hs) ++ codes "\n" ++ lines_text 0 hs ++ codes "end\n"
