-- One more turn's line, and lines behind lines.
use Rattle.std.proofs.Common.{◌∙◌, ℕ, List, [], ◌∷◌, ◌++◌, refl, sym, ap}
use Rattle.std.proofs.lemmas.Grind.{flat_map-append}
use Rattle.std.proofs.lemmas.List.{append-nil}
use Rattle.std.specs.List.{flat_map}
use Rattle.sci_trace.specs.Notes.{Told, line_of_turn, AreLines, AreNotes}

lines_more : (notes : List ℕ) (told : Told) → AreLines notes → AreLines (notes ++ line_of_turn told)
lines_more notes told (turns, is) = (
  turns ++ told ∷ [],
  ap (λ (x : List ℕ). x ++ line_of_turn told) is
      ∙ ap (λ (x : List ℕ). flat_map line_of_turn turns ++ x) (sym (append-nil (line_of_turn told)))
      ∙ sym (flat_map-append line_of_turn turns (told ∷ [])),
)

pub notes_none : AreNotes []
notes_none = λ none. none ([], refl)

pub notes_more : (notes : List ℕ) (told : Told) → AreNotes notes → AreNotes (notes ++ line_of_turn told)
notes_more notes told are = λ none. are (λ lines. none (lines_more notes told lines))

lines_append : (notes more : List ℕ) → AreLines notes → AreLines more → AreLines (notes ++ more)
lines_append notes more (turns, is) (others, also) = (
  turns ++ others,
  ap (λ (x : List ℕ). x ++ more) is
      ∙ ap (λ (x : List ℕ). flat_map line_of_turn turns ++ x) also
      ∙ sym (flat_map-append line_of_turn turns others),
)

pub notes_append : (notes more : List ℕ) → AreNotes notes → AreNotes more → AreNotes (notes ++ more)
notes_append notes more are also = λ none. are (λ lines. also (λ others. none (lines_append notes more lines others)))
