use Rattle.std.proofs.Common.{◌≡◌, ◌++◌, string_bytes, drop, codes}
use Rattle.std.specs.Fmt.{decimal}
use Rattle.std.specs.List.{flat_map}
use Rattle.sci_script.proofs.texts.push_lines.Given as goal

-- what is written, and the text of what is left, is all of the text
abbrev pub invariant-loop-line : goal.invariant-loop-line
invariant-loop-line l =
    string_bytes l.text ++ flat_map (λ line. codes " " ++ decimal line) (drop l.line-index l.lines) ≡ string_bytes l.fn.text ++ flat_map (λ line. codes " " ++ decimal line) l.fn.lines
