-- What a run prints of its result. This project's profile.
use Rattle.std.specs.Prelude.{ℕ, List, ◌++◌, codes}
use Rattle.std.specs.Fmt.{decimal}
use Rattle.sci_dump.specs.Text.{values_text}

-- the word, each value behind a space, and the end of the line
abbrev pub list_line : List ℕ → List ℕ → List ℕ
list_line word values = word ++ values_text values ++ codes "\n"

abbrev pub count_line : ℕ → List ℕ
count_line value = codes "count " ++ decimal value ++ codes "\n"
