-- Which of the texts that `check` judges an input is, and what stands for a front that isn't kept. This project's profile.
use Rattle.std.specs.Prelude.{◌≡◌, ◌⊎◌, ℕ, ◌+◌, ◌<◌, Bool, ◌||◌, List, [], ◌∷◌, ◌++◌, length, codes, ◌==◌, if◌then◌else◌}
use Rattle.std.specs.Str.{bytes_eq}
use Rattle.std.specs.Str.Lines.{lines}
use Rattle.sci_script.specs.Format.{entries_from}
use Rattle.sci_script.specs.Words.{is_blank}
use Rattle.sci_serve.specs.declared.kinds.Kind.{Kind}
use Rattle.sci_serve.specs.declared.kinds.Kind.TheVariants.{Dump, History, Log}

-- a blank, or an end of a line
abbrev pub ends_word : ℕ → Bool
ends_word b = is_blank b || b == 10 || b == 13

-- what stands in front of the first of these
abbrev pub first_word : List ℕ → List ℕ
first_word [] = []
first_word (b ∷ text) = if ends_word b then [] else b ∷ first_word text

-- the first word of the first of these lines; a blank in front of it leaves none
abbrev pub word_of : List (ℕ × List ℕ) → List ℕ
word_of [] = []
word_of (entry ∷ more) = first_word entry.1

-- a history begins with its word; before a log's there may be lines that are skipped; all else is judged as a dump
abbrev pub kind_of : List ℕ → Kind
kind_of input =
    if bytes_eq (first_word input) (codes "scihistory")
    then History
    else (if bytes_eq (word_of (entries_from 1 (lines input))) (codes "memory") then Log else Dump)

-- these bytes are so many lines that are skipped
abbrev pub AreSkipped : ℕ → List ℕ → Type 0
AreSkipped count bytes = (n : ℕ) → (text : List ℕ) → entries_from n (lines (bytes ++ text)) ≡ entries_from (n + count) (lines text)

-- these bytes say nothing: ended there, they are lines that are skipped
abbrev pub SaysNothing : List ℕ → Type 0
SaysNothing bytes = (count : ℕ) × AreSkipped count (bytes ++ 10 ∷ [])

-- so many line feeds are as good as bytes that say nothing: a log's lines keep their numbers, any other text keeps its length
abbrev pub AreAsGood : Kind → ℕ → List ℕ → Type 0
AreAsGood Log feeds bytes = AreSkipped feeds bytes
AreAsGood kind feeds bytes = feeds ≡ length bytes

-- all is kept; or else what isn't says nothing, and is more than a dump may have
abbrev pub StandFor : Kind → ℕ → List ℕ → Type 0
StandFor kind feeds bytes = ((bytes ≡ []) × (feeds ≡ 0)) ⊎ ((1048576 < length bytes) × SaysNothing bytes × AreAsGood kind feeds bytes)
