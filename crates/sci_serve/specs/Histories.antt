-- What the command `run --history` writes of a workload. This project's profile.
use Rattle.std.specs.Prelude.{◌≡◌, ℕ, List, [], ◌∷◌, All}
use Rattle.sci_core.specs.declared.receipts.Receipt.{Receipt}
use Rattle.sci_core.specs.Closed.{ClosedLine, value_of}
use Rattle.sci_core.specs.State.{blank}
use Rattle.sci_histories.specs.Histories.{LineReceipts}
use Rattle.sci_histories.specs.Rules.{IsLegalLine}
use Rattle.sci_histories.specs.Text.{history_text}
use Rattle.sci_work.specs.Ended.{AreHistories}
use Rattle.sci_work.specs.Written.{AreWrittenAs}
use Rattle.sci_settings.specs.declared.settings.Settings.{Settings}
use Rattle.sci_settings.specs.Settings.{nodes_of}
use Rattle.sci_serve.specs.Runs.{AreLeftBy, fits_of, writes_of}

-- from zeros to what the line was closed with, and these receipts
abbrev pub history_from : ClosedLine → List (List Receipt) → LineReceipts
history_from c lists = record { opening = blank; closing = value_of c; lists = lists }

-- those of lines, in order
abbrev pub histories_from : List ClosedLine → List (List (List Receipt)) → List LineReceipts
histories_from [] lists = []
histories_from (c ∷ cs) [] = []
histories_from (c ∷ cs) (l ∷ ls) = history_from c l ∷ histories_from cs ls

-- the text of the receipts of closed lines' nodes, which are legal histories of these lines, and each list its node's own, with these writes
pub record IsTextOfHistories (fits : ℕ → List ℕ → Type 0) (own : ℕ → ℕ → List Receipt → Type 0) (nodes : ℕ) (closed : List ClosedLine) (text : List ℕ) : Type 0 where
  pub lists : List (List (List Receipt))
  pub histories : AreHistories fits nodes closed lists
  pub wrote : AreWrittenAs own lists
  pub legal : All IsLegalLine (histories_from closed lists)
  pub is : text ≡ history_text nodes (histories_from closed lists)

-- the text of histories of the lines on which the result of these settings was made
abbrev pub IsHistoryTextOf : Settings → List ℕ → Type 0
IsHistoryTextOf s text = (closed : List ClosedLine) × AreLeftBy s closed × IsTextOfHistories (fits_of s) (writes_of s) (nodes_of s) closed text
