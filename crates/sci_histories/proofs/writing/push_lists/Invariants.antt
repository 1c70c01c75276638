use Rattle.std.proofs.Common.{◌≡◌, ◌++◌, string_bytes, drop}
use Rattle.sci_histories.specs.Text.{lists_text}
use Rattle.sci_histories.proofs.writing.push_lists.Given as goal

-- what is written, and the text of what is left, is all of the text
abbrev pub invariant-loop-node : goal.invariant-loop-node
invariant-loop-node l = string_bytes l.text ++ lists_text l.node (drop l.node l.lists) ≡ string_bytes l.fn.text ++ lists_text 0 l.lists
