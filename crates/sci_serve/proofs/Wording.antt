-- The first word of a text, and of its first line that isn't skipped.
use Rattle.std.proofs.Common.{◌≡◌, ◌⊎◌, ℕ, ◌+◌, ◌<◌, ◌≤◌, true, false, cond, eqb, ltb, leb, List, [], ◌∷◌, ◌++◌, All, length, get_or, take, drop, refl, sym, ap, ◌∙◌, append_assoc, append-nil, length-append, arith, inl, inr}
use Rattle.std.specs.Str.{bytes_eq}
use Rattle.std.specs.Str.Lines.{lines, strip_carriage_return}
use Rattle.std.proofs.lemmas.Bool.{and_right, cases_Bool, leb-true, cases_lt, eqb-true, ltb-true}
use Rattle.std.proofs.lemmas.List.{drop_all, drop_more, take_all, take_more}
use Rattle.std.proofs.lemmas.List.Elements.{All-append, All-cons, All-nil}
use Rattle.sci_script.specs.Words.{is_skipped}
use Rattle.sci_script.specs.Format.{entries_from}
use Rattle.sci_serve.specs.Kinds.{ends_word, first_word, word_of}
use Rattle.sci_serve.specs.Gathered.{IsBefore, IsSaid, IsTold}
use Rattle.sci_serve.specs.declared.kinds.Place.{Place}
use Rattle.sci_script.proofs.Lines.{lines_at, lines_last}
use Rattle.sci_script.proofs.Reading.{entries_found}
use Rattle.sci_serve.proofs.Skipping.{goes_on, strip_more, strip_one}

pub word_on : (text : List ℕ) (at : ℕ) → at < length text → ends_word (get_or text at 0) ≡ false
    → take at text ++ first_word (drop at text) ≡ take (at + 1) text ++ first_word (drop (at + 1) text)
word_on text at inside goes =
    let here : first_word (drop at text) ≡ get_or text at 0 ∷ first_word (drop (at + 1) text) = ap first_word (drop_more text at 0 inside) ∙ rw goes refl in
    ap (λ (l : List ℕ). take at text ++ l) here ∙ sym (append_assoc (take at text) (get_or text at 0 ∷ []) (first_word (drop (at + 1) text)))
    ∙ ap (λ (l : List ℕ). l ++ first_word (drop (at + 1) text)) (sym (take_more text at 0 inside))

pub word_ends : (text : List ℕ) (at : ℕ) → at < length text → ends_word (get_or text at 0) ≡ true → take at text ++ first_word (drop at text) ≡ take at text
word_ends text at inside ends =
    let here : first_word (drop at text) ≡ [] = ap first_word (drop_more text at 0 inside) ∙ rw ends refl in
    ap (λ (l : List ℕ). take at text ++ l) here ∙ append-nil (take at text)

pub word_whole : (text : List ℕ) (at : ℕ) → length text ≤ at → take at text ++ first_word (drop at text) ≡ text
word_whole text at all = ap (λ (l : List ℕ). take at text ++ first_word l) (drop_all at text all) ∙ append-nil (take at text) ∙ take_all at text all

-- ---- a word that is known

word_ended : (text rest : List ℕ) → length (first_word text) < length text → first_word (text ++ rest) ≡ first_word text
word_ended [] rest h = absurd (omega arith)
word_ended (b ∷ text) rest h = elim (cases_Bool (ends_word b)) [
  | inl ends ↦ rw ends refl
  | inr goes ↦
      let shorter : length (b ∷ first_word text) < length (b ∷ text) = rw goes at h in
      rw goes (ap (λ (l : List ℕ). b ∷ l) (word_ended text rest (omega (arith, shorter))))
]

word_longer : (text rest : List ℕ) → length (first_word text) ≤ length (first_word (text ++ rest))
word_longer [] rest = omega arith
word_longer (b ∷ text) rest = elim (cases_Bool (ends_word b)) [
  | inl ends ↦ rw ends (omega arith)
  | inr goes ↦ rw goes (omega (arith, word_longer text rest))
]

longer_other : (xs ys : List ℕ) → length ys < length xs → bytes_eq xs ys ≡ false
longer_other [] ys h = absurd (omega arith)
longer_other (x ∷ xs) [] h = refl
longer_other (x ∷ xs) (y ∷ ys) h = and_right (eqb x y) (bytes_eq xs ys) (longer_other xs ys (omega (arith, h)))

-- so what follows doesn't matter
pub word_known : (text rest name : List ℕ) → IsTold text rest → length name < 11 → bytes_eq (first_word (text ++ rest)) name ≡ bytes_eq (first_word text) name
word_known text rest name (inl none) short = ap (λ (l : List ℕ). bytes_eq (first_word (text ++ l)) name) none ∙ ap (λ (l : List ℕ). bytes_eq (first_word l) name) (append-nil text)
word_known text rest name (inr told) short = elim (cases_lt (length (first_word text)) (length text)) [
  | inl ended ↦ ap (λ (l : List ℕ). bytes_eq l name) (word_ended text rest ended)
  | inr whole ↦
      let long : 11 ≤ length text = elim (cases_Bool (leb 11 (length text))) [
        | inl many ↦ leb-true 11 (length text) many
        | inr few ↦ absurd (let shorter : ltb (length (first_word text)) (length text) ≡ true = rw few at told in omega (arith, ltb-true _ _ shorter))
      ] in
      longer_other (first_word (text ++ rest)) name (omega (arith, long, whole, short, word_longer text rest)) ∙ sym (longer_other (first_word text) name (omega (arith, long, whole, short)))
]

-- ---- the first line

-- a text up to its first line end
cut : (text : List ℕ) → (line : List ℕ) × All (λ b. eqb b 10 ≡ false) line × ((text ≡ line) ⊎ ((rest : List ℕ) × (text ≡ line ++ 10 ∷ rest)))
cut [] = ([], All-nil (λ (b : ℕ). eqb b 10 ≡ false), inl refl)
cut (b ∷ text) = elim (cases_Bool (eqb b 10)) [
  | inl end ↦ ([], All-nil (λ (x : ℕ). eqb x 10 ≡ false), inr (text, ap (λ (x : ℕ). x ∷ text) (eqb-true b 10 end)))
  | inr goes ↦
      let (line, none, is) = cut text in (
        b ∷ line,
        All-cons (λ (x : ℕ). eqb x 10 ≡ false) b line goes none,
        elim is [
          | inl whole ↦ inl (ap (λ (l : List ℕ). b ∷ l) whole)
          | inr more ↦ inr (more.0, ap (λ (l : List ℕ). b ∷ l) more.1)
        ],
      )
]

word_before_end : (line rest : List ℕ) → first_word (line ++ 10 ∷ rest) ≡ first_word line
word_before_end [] rest = refl
word_before_end (b ∷ line) rest = ap (λ (l : List ℕ). cond (ends_word b) [] (b ∷ l)) (word_before_end line rest)

word_stripped : (line : List ℕ) → first_word (strip_carriage_return line) ≡ first_word line
word_stripped [] = refl
word_stripped (b ∷ []) = elim (cases_Bool (eqb b 13)) [
  | inl return ↦
      let none : strip_carriage_return (b ∷ []) ≡ [] = strip_one b ∙ rw return refl in
      ap first_word none ∙ rw (eqb-true b 13 return) refl
  | inr other ↦
      let whole : strip_carriage_return (b ∷ []) ≡ b ∷ [] = strip_one b ∙ rw other refl in
      ap first_word whole
]
word_stripped (b ∷ (c ∷ line)) = ap first_word (strip_more b c line) ∙ ap (λ (l : List ℕ). cond (ends_word b) [] (b ∷ l)) (word_stripped (c ∷ line))

pub word_found : (n : ℕ) (line : List ℕ) (more : List (List ℕ)) → is_skipped line ≡ false → word_of (entries_from n (line ∷ more)) ≡ first_word line
word_found n line more said = ap word_of (entries_found n line more (is_skipped line) refl said)

-- the first line that isn't skipped
pub word_at : (n : ℕ) (place : Place) (line : List ℕ) (b : ℕ) (more : List ℕ) → IsBefore place line → IsSaid place b
    → word_of (entries_from n (lines (line ++ b ∷ more))) ≡ first_word (line ++ b ∷ more)
word_at n place line b more before said =
    let (front, none, is) = cut more in
    let P = λ (x : ℕ). eqb x 10 ≡ false in
    let all : All (λ (x : ℕ). eqb x 10 ≡ false) (line ++ b ∷ front) = All-append P line (b ∷ front) (goes_on place line before) (All-cons P b front said.0 none) in
    let kept = said.1 line front before in
    elim is [
      | inl whole ↦
          let last : lines (line ++ b ∷ front) ≡ (line ++ b ∷ front) ∷ [] = lines_last (line ++ b ∷ front) (omega (arith, length-append line (b ∷ front))) all in
          rw whole (ap (λ (l : List (List ℕ)). word_of (entries_from n l)) last ∙ word_found n (line ++ b ∷ front) [] kept.0)
      | inr (rest, ended) ↦
          let joined : line ++ b ∷ more ≡ (line ++ b ∷ front) ++ 10 ∷ rest = ap (λ (l : List ℕ). line ++ b ∷ l) ended ∙ sym (append_assoc line (b ∷ front) (10 ∷ rest)) in
          rw joined
          (ap (λ (l : List (List ℕ)). word_of (entries_from n l)) (lines_at (line ++ b ∷ front) rest all) ∙ word_found n (strip_carriage_return (line ++ b ∷ front)) (lines rest) kept.1
          ∙ word_stripped (line ++ b ∷ front) ∙ sym (word_before_end (line ++ b ∷ front) rest))
    ]
