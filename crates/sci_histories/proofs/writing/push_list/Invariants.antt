use Rattle.std.proofs.Common.{◌≡◌, ◌++◌, string_bytes, drop}
use Rattle.sci_histories.specs.Text.{list_text}
use Rattle.sci_histories.proofs.writing.push_list.Given as goal

-- what is written, and the text of what is left, is all of the text
abbrev pub invariant-loop-place : goal.invariant-loop-place
invariant-loop-place l = string_bytes l.text ++ list_text l.node (drop l.place l.receipts) ≡ string_bytes l.fn.text ++ list_text l.node l.receipts
