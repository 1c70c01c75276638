use Rattle.std.proofs.Common.{◌≡◌, ◌++◌, string_bytes, drop}
use Rattle.sci_words.specs.declared.layouts.Layout.TheVariants.{Two}
use Rattle.sci_dump.specs.Text.{lines_text}
use Rattle.sci_dump.proofs.texts.push_lines.Given as goal

-- what is written, and the text of the lines that are left, is all of the text
abbrev pub invariant-loop-number : goal.invariant-loop-number
invariant-loop-number l = string_bytes l.text ++ lines_text Two l.number (drop l.number l.lines) ≡ string_bytes l.fn.text ++ lines_text Two 0 l.lines
