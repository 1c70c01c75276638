-- What a text says as a history, or its first fault. This project's profile.
use Rattle.std.specs.Prelude.{ℕ, zero, suc, ◌+◌, ◌-◌, ◌^◌, min, List, [], ◌∷◌, length, ◌||◌, Bool, Option, Some, None, is_some, Result, Ok, Err, codes, if◌then◌else◌}
use Rattle.sci_core.specs.declared.lines.Line.{Line}
use Rattle.sci_core.specs.declared.receipts.Receipt.{Receipt}
use Rattle.sci_core.specs.declared.receipts.Receipt.TheVariants.{Read, Passed, Wrote}
use Rattle.sci_core.specs.declared.whole.TheConstants.{MOST_NODES}
use Rattle.sci_dump.specs.declared.refusals.DumpRefusal.{DumpRefusal}
use Rattle.sci_dump.specs.declared.refusals.DumpRefusal.TheVariants.{DumpFault}
use Rattle.sci_dump.specs.Reading.{◌>>=◌, ◌>>>◌, behind, value_at, values_at, content_at, numbered_at, counted_at, on_line}
use Rattle.sci_histories.specs.Histories.{LineReceipts, HistoryLines}

-- the number of the next line of text; no text has more of them than the greatest number of 64 bits
abbrev pub next : ℕ → ℕ
next n = min (n + 1) (2 ^ 64 - 1)

-- what stands behind a label and this number
unfoldable pub named_at : List ℕ → ℕ → List ℕ → Option (List ℕ)
named_at label number text = behind label text >>= λ t. numbered_at number t

-- a label, this number, a stamp and eight words, to the end of the line of text
unfoldable pub row_at : List ℕ → ℕ → List ℕ → Option (Line × List ℕ)
row_at label number text = named_at label number text >>= λ t. content_at t

-- a receipt behind `read N`, `passed N` or `wrote N`
unfoldable pub read_at : List ℕ → Option (Receipt × List ℕ)
read_at text = content_at text >>= λ found. Some (Read found.0.words found.0.stamp, found.1)

unfoldable pub passed_at : List ℕ → Option (Receipt × List ℕ)
passed_at text = content_at text >>= λ found. Some (Passed found.0.words found.0.stamp, found.1)

unfoldable pub wrote_at : List ℕ → Option (Receipt × List ℕ)
wrote_at text = do
  stamp ← value_at text
  words ← values_at 8 stamp.1
  rest ← behind (codes " over") words.1
  before ← values_at 8 rest
  rest ← behind (codes "\n") before.1
  Some (Wrote before.0 words.0 stamp.0, rest)

-- whether a receipt of the node begins here
unfoldable pub begins_at : ℕ → List ℕ → Bool
begins_at node text = is_some (named_at (codes "read ") node text) || is_some (named_at (codes "passed ") node text) || is_some (named_at (codes "wrote ") node text)

-- the receipt behind the label that there is
abbrev pub receipt_by : Option (List ℕ) → Option (List ℕ) → Option (List ℕ) → Option (Receipt × List ℕ)
receipt_by (Some rest) passed wrote = read_at rest
receipt_by None (Some rest) wrote = passed_at rest
receipt_by None None (Some rest) = wrote_at rest
receipt_by None None None = None

unfoldable pub receipt_at : ℕ → List ℕ → Option (Receipt × List ℕ)
receipt_at node text = receipt_by (named_at (codes "read ") node text) (named_at (codes "passed ") node text) (named_at (codes "wrote ") node text)

-- the receipts of a node, as many as there are, up to so many; the number of the next line of text, and the text from there on
unfoldable pub receipts_at : ℕ → ℕ → ℕ → List ℕ → Result (List Receipt × ℕ × List ℕ) DumpRefusal
receipts_at zero node n text = Ok ([], n, text)
receipts_at (suc k) node n text =
    if begins_at node text
    then (on_line n (receipt_at node text) >>> λ found. receipts_at k node (next n) found.1 >>> λ more. Ok (found.0 ∷ more.0, more.1, more.2))
    else Ok ([], n, text)

-- those of so many nodes from this one on; a text has no more receipts than bytes
unfoldable pub lists_at : ℕ → ℕ → ℕ → List ℕ → Result (List (List Receipt) × ℕ × List ℕ) DumpRefusal
lists_at node zero n text = Ok ([], n, text)
lists_at node (suc k) n text =
    receipts_at (length text) node n text >>> λ list. lists_at (node + 1) k list.1 list.2 >>> λ more. Ok (list.0 ∷ more.0, more.1, more.2)

-- a line's history
unfoldable pub line_at : ℕ → ℕ → ℕ → List ℕ → Result (LineReceipts × ℕ × List ℕ) DumpRefusal
line_at number nodes n text =
    on_line n (row_at (codes "line ") number text) >>> λ opening. on_line (next n) (row_at (codes "closed ") number opening.1)
    >>> λ closing. lists_at 0 nodes (next (next n)) closing.1
    >>> λ found. Ok (record { opening = opening.0; closing = closing.0; lists = found.0 }, found.1, found.2)

-- so many lines from this one on
unfoldable pub lines_at : ℕ → ℕ → ℕ → ℕ → List ℕ → Result (List LineReceipts × ℕ × List ℕ) DumpRefusal
lines_at number zero nodes n text = Ok ([], n, text)
lines_at number (suc k) nodes n text =
    line_at number nodes n text >>> λ line. lines_at (number + 1) k nodes line.1 line.2 >>> λ more. Ok (line.0 ∷ more.0, more.1, more.2)

-- `scihistory 1 NODES LINES`
unfoldable pub head_at : List ℕ → Option (ℕ × ℕ × List ℕ)
head_at text = do
  nodes ← counted_at (codes "scihistory 1 ") MOST_NODES text
  lines ← counted_at (codes " ") 1024 nodes.1
  rest ← behind (codes "\n") lines.1
  Some (nodes.0, lines.0, rest)

-- `end`, and nothing behind it
abbrev pub ended : ℕ → List ℕ → Result (Unit {0}) DumpRefusal
ended n [] = Ok tt
ended n (b ∷ bs) = Err (DumpFault (next n))

unfoldable pub end_at : ℕ → List ℕ → Result (Unit {0}) DumpRefusal
end_at n text = on_line n (behind (codes "end\n") text) >>> ended n

-- a whole history
unfoldable pub history_of : List ℕ → Result HistoryLines DumpRefusal
history_of text =
    on_line 1 (head_at text) >>> λ head. lines_at 0 head.1 head.0 2 head.2
    >>> λ found. end_at found.1 found.2
    >>> λ _. Ok (record { nodes = head.0; lines = found.0 })
