use Rattle.std.proofs.Common.{◌≡◌, ◌++◌, string_bytes, drop}
use Rattle.sci_histories.specs.Text.{lines_text}
use Rattle.sci_histories.proofs.writing.push_lines.Given as goal

-- what is written, and the text of what is left, is all of the text
abbrev pub invariant-loop-number : goal.invariant-loop-number
invariant-loop-number l = string_bytes l.text ++ lines_text l.number (drop l.number l.lines) ≡ string_bytes l.fn.text ++ lines_text 0 l.lines
