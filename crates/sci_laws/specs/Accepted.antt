-- What a talk writes of a script that is accepted. This project's profile.
use Rattle.std.specs.Prelude.{ℕ, Bool, List, [], ◌++◌, take, codes, if◌then◌else◌}
use Rattle.std.specs.List.{flat_map, list_any}
use Rattle.std.specs.Str.{bytes_eq}
use Rattle.std.specs.Str.Lines.{lines}

-- a text without its lines `ok`
abbrev pub unless_ok : List ℕ → List ℕ
unless_ok line = if bytes_eq line (codes "ok") then [] else line ++ codes "\n"

abbrev pub without_ok : List ℕ → List ℕ
without_ok text = flat_map unless_ok (lines text)

-- a line of it is `refused N`
abbrev pub is_refusal : List ℕ → Bool
is_refusal line = bytes_eq (take 8 line) (codes "refused ")

abbrev pub refuses : List ℕ → Bool
refuses text = list_any is_refusal (lines text)
