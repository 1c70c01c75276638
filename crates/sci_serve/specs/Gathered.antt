-- What was read of an input in front of its first word. This project's profile.
use Rattle.std.specs.Prelude.{◌≡◌, ◌≢◌, ◌⊎◌, ℕ, ◌<◌, ◌≤◌, Bool, true, false, ◌||◌, List, [], ◌∷◌, ◌++◌, length, codes, ◌==◌, if◌then◌else◌, slice_index, nat_lt, nat_le}
use Rattle.std.specs.List.{All, list_all}
use Rattle.std.specs.Str.Lines.{strip_carriage_return}
use Rattle.sci_script.specs.Words.{is_blank, is_skipped}
use Rattle.sci_serve.specs.Kinds.{AreSkipped, StandFor, first_word, kind_of}
use Rattle.sci_serve.specs.declared.kinds.Beginning.{Beginning}
use Rattle.sci_serve.specs.declared.kinds.Place.{Place}
use Rattle.sci_serve.specs.declared.kinds.Place.TheVariants.{Start, Blank, Comment, Return}
use Rattle.sci_serve.specs.declared.kinds.Gathered.{Gathered}

-- what a line has in front of this place: nothing, blanks, a comment, or blanks and a carriage return
abbrev pub IsBefore : Place → List ℕ → Type 0
IsBefore Start line = line ≡ []
IsBefore Blank line = (0 < length line) × (list_all is_blank line ≡ true)
IsBefore Comment line = (more : List ℕ) × (line ≡ 35 ∷ more) × All (λ b. (b == 10) ≡ false) more
IsBefore Return line = (blanks : List ℕ) × (line ≡ blanks ++ 13 ∷ []) × (list_all is_blank blanks ≡ true)

abbrev pub is_start : Place → Bool
is_start Start = true
is_start place = false

-- with this byte at that place the line isn't skipped, whatever follows
abbrev pub IsSaid : Place → ℕ → Type 0
IsSaid place byte = ((byte == 10) ≡ false)
    × ((line more : List ℕ) → IsBefore place line → (is_skipped (line ++ byte ∷ more) ≡ false) × (is_skipped (strip_carriage_return (line ++ byte ∷ more)) ≡ false))

-- bytes that say nothing: lines that are skipped, and one that may be; no history begins so
pub record StandsAt (place : Place) (silent : List ℕ) (count : ℕ) : Type 0 where
  pub whole : List ℕ
  pub line : List ℕ
  pub is : silent ≡ whole ++ line
  pub skipped : AreSkipped count whole
  pub before : IsBefore place line
  pub other : 0 < length silent → (text : List ℕ) → first_word (silent ++ text) ≢ codes "scihistory"

-- a text's first word is known: it has ended, or is longer than any
abbrev pub is_told : List ℕ → Bool
is_told text = nat_le 11 (length text) || nat_lt (length (first_word text)) (length text)

abbrev pub IsTold : List ℕ → List ℕ → Type 0
IsTold text rest = (rest ≡ []) ⊎ (is_told text ≡ true)

-- all bytes so far: those that say nothing, which are kept up to a limit, and those from the first word on
pub record IsGathered (o : Gathered) (seen : List ℕ) : Type 0 where
  pub silent : List ℕ
  pub is : seen ≡ silent ++ o.word.items
  pub stands : StandsAt o.place silent o.lines
  pub fewer : o.lines ≤ o.passed
  pub many : o.passed ≡ length silent
  pub kept : o.silent.items ≡ (if nat_lt 1048576 (length silent) then [] else silent)
  pub said : 0 < length o.word.items → IsSaid o.place (slice_index o.word.items 0)

-- the beginning of an input, of which the rest follows
abbrev pub IsBegun : Beginning → List ℕ → List ℕ → Type 0
IsBegun b seen rest = (b.kind ≡ kind_of (seen ++ rest)) × (gone : List ℕ) × (seen ≡ gone ++ b.front.items) × StandFor b.kind b.feeds gone
