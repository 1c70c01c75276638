-- What contracts see of a history. This project's profile.
use Rattle.std.specs.Prelude.{◌≡◌, ◌≤◌, ℕ, List, [], length, get_or, All}
use Rattle.sci_core.specs.declared.lines.Line.{Line}
use Rattle.sci_core.specs.declared.receipts.Receipt.{Receipt}
use Rattle.sci_core.specs.declared.whole.TheConstants.{MOST_NODES}

-- a line's opening and closing content, and by node its receipts
pub record LineReceipts : Type 0 where
  pub opening : Line
  pub closing : Line
  pub lists : List (List Receipt)

-- the receipts of a node: none where there is no such node
abbrev pub of_node : LineReceipts → ℕ → List Receipt
of_node h j = get_or h.lists j []

-- the number of nodes, and the lines' histories from line 0 on
pub record HistoryLines : Type 0 where
  pub nodes : ℕ
  pub lines : List LineReceipts

-- 1 to 1,024 nodes, 1 to 1,024 lines, and each line has a list of each node
pub record HasSizes (h : HistoryLines) : Type 0 where
  pub nodes : (1 ≤ h.nodes) × (h.nodes ≤ MOST_NODES)
  pub lines : (1 ≤ length h.lines) × (length h.lines ≤ 1024)
  pub each : All (λ l. length l.lists ≡ h.nodes) h.lines
