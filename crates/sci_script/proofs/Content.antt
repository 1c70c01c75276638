-- What a line opens with, opening by opening.
use Rattle.std.proofs.Common.{◌≡◌, ◌==◌, ℕ, ◌+◌, ◌<◌, ◌≤◌, List, length, get_or, drop, ap, if◌then◌else◌}
use Rattle.std.proofs.lemmas.List.{drop_more, drop_all}
use Rattle.sci_core.specs.declared.lines.Line.{Line}
use Rattle.sci_script.specs.declared.commands.Opening.{Opening}
use Rattle.sci_script.specs.Openings.{content_of}

pub content_more : (line : ℕ) (content : Line) (openings : List Opening) (i : ℕ) (d : Opening) → i < length openings
    → content_of line content (drop i openings) ≡ content_of line (if (get_or openings i d).line == line then (get_or openings i d).content else content) (drop (i + 1) openings)
unfolding content_of
content_more line content openings i d lt = ap (λ (os : List Opening). content_of line content os) (drop_more openings i d lt)

pub content_end : (line : ℕ) (content : Line) (openings : List Opening) (i : ℕ) → length openings ≤ i → content_of line content (drop i openings) ≡ content
unfolding content_of
content_end line content openings i le = ap (λ (os : List Opening). content_of line content os) (drop_all i openings le)
