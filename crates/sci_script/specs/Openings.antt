-- What a line opens with. This project's profile.
use Rattle.std.specs.Prelude.{ℕ, List, [], ◌∷◌, ◌==◌, replicate, if◌then◌else◌}
use Rattle.sci_core.specs.declared.lines.Line.{Line}
use Rattle.sci_script.specs.declared.commands.Opening.{Opening}

abbrev pub zeros : Line
zeros = record { words = replicate 8 0; stamp = 0 }

-- the content of the line's last opening, or else this one
unfoldable pub content_of : ℕ → Line → List Opening → Line
content_of line content [] = content
content_of line content (opening ∷ openings) = content_of line (if opening.line == line then opening.content else content) openings
