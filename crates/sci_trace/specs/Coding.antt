-- A text as it stands in a page. This project's profile.
use Rattle.std.specs.Prelude.{◌≡◌, ℕ, ◌<◌, List, [], ◌∷◌, length, take, codes, ◌==◌, if◌then◌else◌}
use Rattle.std.specs.List.{flat_map}
use Rattle.sci_trace.specs.declared.coding.Coding.{Coding}

-- what stands for a byte: `&`, `<`, `>` and both quotes have names; a browser reads a carriage return as a line feed and drops a NUL, so
-- these stand as their number and that of the replacement sign; every other byte stands for itself
abbrev pub entity : ℕ → List ℕ
entity byte =
    if byte == 38 then codes "&amp;"
    else if byte == 60 then codes "&lt;"
    else if byte == 62 then codes "&gt;"
    else if byte == 34 then codes "&quot;"
    else if byte == 39 then codes "&#39;"
    else if byte == 13 then codes "&#13;"
    else if byte == 0 then codes "&#65533;"
    else byte ∷ []

abbrev pub escaped : List ℕ → List ℕ
escaped bytes = flat_map entity bytes

abbrev pub coded : Coding → List ℕ → List ℕ
coded Coding.Plain bytes = bytes
coded Coding.Escaped bytes = escaped bytes

-- a front of a text, and not all of it
abbrev pub IsFront : List ℕ → List ℕ → Type 0
IsFront text front = (n : ℕ) × (n < length text) × (front ≡ take n text)
