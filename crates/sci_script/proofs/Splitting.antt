-- The words of a line, from the first to the last.
use Rattle.std.proofs.Common.{◌≡◌, ◌∙◌, ℕ, ◌+◌, ◌-◌, ◌<◌, ◌≤◌, ◌==◌, true, false, not, List, [], ◌∷◌, ◌++◌, All, length, get_or, take, drop, filter, refl, sym, ap, arith, subst}
use Rattle.std.specs.Char.{is_ascii_graphic}
use Rattle.std.specs.List.{AllWithin, list_all, slice_split}
use Rattle.std.proofs.lemmas.List.{append_assoc, drop_more, drop-drop, get_or-take, get_or-drop, get_or_default, length-take, take-append-drop, take_rest}
use Rattle.std.proofs.lemmas.List.Elements.{AllWithin-more, AllWithin-upto, All-from_all_within, filter-append}
use Rattle.std.proofs.lemmas.List.Splits.{slice_split_at, slice_split_none}
use Rattle.std.proofs.lemmas.List.Folds.{list_all_at}
use Rattle.std.proofs.lemmas.List.Sums.{list_all-from_AllPass}
use Rattle.std.proofs.lemmas.Bool.Decides.{nat_tests}
use Rattle.sci_script.specs.Words.{has_bytes, is_blank, is_plain, words_of}

-- a word, if it has bytes
abbrev put : List ℕ → List (List ℕ)
put word = filter has_bytes (word ∷ [])

-- the bytes of a part have what those of the line have there
solid : (line : List ℕ) (start at : ℕ) → AllWithin (λ b. is_blank b ≡ false) line start at → All (λ b. is_blank b ≡ false) (take (at - start) (drop start line))
solid line start at h k d lt =
    let inside : k < at - start = omega (arith, lt, length-take (at - start) (drop start line)) in
    subst (λ (b : ℕ). is_blank b ≡ false) (sym (get_or-take (at - start) (drop start line) k d inside ∙ get_or-drop start line k d)) (h (start + k) d (omega arith) (omega (arith, inside)))

-- a word in front of a blank, and the words behind it
pub word_first : (line : List ℕ) (start at : ℕ) → start ≤ at → at < length line → AllWithin (λ b. is_blank b ≡ false) line start at → is_blank (get_or line at 0) ≡ true
    → words_of (drop start line) ≡ put (take (at - start) (drop start line)) ++ words_of (drop (at + 1) line)
word_first line start at begun inside none blank =
    let word : List ℕ = take (at - start) (drop start line) in
    let rest : List ℕ = drop (at + 1) line in
    let behind : drop (at - start) (drop start line) ≡ drop at line = drop-drop (at - start) start line ∙ ap (λ (n : ℕ). drop n line) (omega (arith, begun)) in
    let cut : drop start line ≡ word ++ get_or line at 0 ∷ rest = sym (take-append-drop (at - start) (drop start line)) ∙ ap (λ (l : List ℕ). word ++ l) (behind ∙ drop_more line at 0 inside) in
    ap words_of cut ∙ ap (filter has_bytes) (slice_split_at is_blank word (get_or line at 0) rest (solid line start at none) blank) ∙ filter-append has_bytes (word ∷ []) (slice_split is_blank rest)

-- a last word
pub word_last : (line : List ℕ) (start at : ℕ) → length line ≤ at → AllWithin (λ b. is_blank b ≡ false) line start at → words_of (drop start line) ≡ put (take (length line - start) (drop start line))
word_last line start at past none =
    let word : List ℕ = take (length line - start) (drop start line) in
    ap words_of (sym (take_rest line start))
    ∙ ap (filter has_bytes) (slice_split_none is_blank word (solid line start (length line) (AllWithin-upto (λ b. is_blank b ≡ false) line start at (length line) past none)))

-- words behind those so far
pub words_more : (old new more rest left all : List (List ℕ)) → new ≡ old ++ more → left ≡ more ++ rest → old ++ left ≡ all → new ++ rest ≡ all
words_more old new more rest left all put cut h = ap (λ (l : List (List ℕ)). l ++ rest) put ∙ append_assoc old more rest ∙ ap (λ (l : List (List ℕ)). old ++ l) (sym cut) ∙ h

-- a last word behind those so far
pub words_end : (old new last left all : List (List ℕ)) → new ≡ old ++ last → left ≡ last → old ++ left ≡ all → new ≡ all
words_end old new last left all put cut h = cc

-- a byte that prints, or a blank, is plain; one that prints is no blank
pub plain_blank : (b : ℕ) → is_blank b ≡ true → is_plain b ≡ true
plain_blank b h = grind (arith, nat_tests)

pub plain_graphic : (b : ℕ) → is_ascii_graphic b ≡ true → is_plain b ≡ true
plain_graphic b h = grind (arith, nat_tests)

pub no_blank : (b : ℕ) → is_ascii_graphic b ≡ true → is_blank b ≡ false
no_blank b h = grind (arith, nat_tests)

not_plain : (b : ℕ) → is_ascii_graphic b ≡ false → is_blank b ≡ false → is_plain b ≡ false
not_plain b g h = grind (arith, nat_tests)

-- one more byte of a kind
pub one_more : (P : ℕ → Type 0) (line : List ℕ) (low at : ℕ) → at < length line → AllWithin P line low at → P (get_or line at 0) → AllWithin P line low (at + 1)
one_more P line low at inside h here = AllWithin-more P line low at h (λ d. subst P (get_or_default line at 0 d inside) here)

-- a line with a byte that isn't plain
pub line_odd : (line : List ℕ) (at : ℕ) → at < length line → is_ascii_graphic (get_or line at 0) ≡ false → is_blank (get_or line at 0) ≡ false → list_all is_plain line ≡ false
line_odd line at inside g h = list_all_at is_plain line at 0 inside (not_plain (get_or line at 0) g h)

-- a line of plain bytes
pub line_plain : (line : List ℕ) (at : ℕ) → length line ≤ at → AllWithin (λ b. is_plain b ≡ true) line 0 at → list_all is_plain line ≡ true
line_plain line at past h =
    list_all-from_AllPass is_plain line (All-from_all_within (λ b. is_plain b ≡ true) line (AllWithin-upto (λ b. is_plain b ≡ true) line 0 at (length line) past h))
