use Rattle.std.proofs.Common.{◌≡◌, ◌++◌, string_bytes, drop}
use Rattle.sci_dump.specs.Text.{values_text}
use Rattle.sci_histories.proofs.writing.push_values.Given as goal

-- what is written, and the text of what is left, is all of the text
abbrev pub invariant-loop-value : goal.invariant-loop-value
invariant-loop-value l = string_bytes l.text ++ values_text (drop l.value-index l.values) ≡ string_bytes l.fn.text ++ values_text l.values
