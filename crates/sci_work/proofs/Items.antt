-- What fits the lines of a ring.
use Rattle.std.proofs.Common.{◌≡◌, ℕ, ◌+◌, ◌%◌, ◌<◌, ◌≤◌, List, [], ◌∷◌, length, slice_index, replicate, suc, ◌++◌, take, drop, length-drop, get_or, get_or-drop, inl, inr, refl, ap, subst, ◌∙◌, sym, arith}
use Rattle.std.proofs.Math.Seq.{take-add}
use Rattle.sci_work.specs.Ring.{FitsRing, IsRing, IsRingOf, item_words, count_words, item_writes, count_writes}

-- a line below `lines` with the number of item i shows its value
pub value_shown : (source : List ℕ) (lines line : ℕ) (words : List ℕ) (i : ℕ) → line < lines → FitsRing source lines line words → slice_index words 0 ≡ i + 1 → slice_index words 1 ≡ slice_index source i
value_shown source lines line words i low fits is =
    elim (fits.item low) [
      | inl zeros ↦ absurd (let z : slice_index words 0 ≡ 0 = ap (λ ws. slice_index ws 0) zeros in omega arith)
      | inr (j, shows) ↦
          let n : slice_index words 0 ≡ j + 1 = ap (λ ws. slice_index ws 0) shows.words_are in
          let same : j ≡ i = omega arith in
          ap (λ ws. slice_index ws 1) shows.words_are ∙ ap (λ k. slice_index source k) same
    ]

pub item_fits : (source : List ℕ) (lines i : ℕ) → 0 < lines → i < length source → FitsRing source lines (i % lines) (item_words source i)
item_fits source lines i some inside = record {
  item = λ low. inr (i, record { inside = inside; place = refl; words_are = refl });
  count = λ at. absurd (omega arith);
  beyond = λ more. absurd (omega arith);
}

pub zeros_fit : (source : List ℕ) (lines line : ℕ) → FitsRing source lines line (replicate 8 0)
zeros_fit source lines line = record {
  item = λ low. inl refl;
  count = λ at. omega arith;
  beyond = λ more. refl;
}

pub count_fits : (source : List ℕ) (lines count : ℕ) → count ≤ length source → FitsRing source lines lines (count_words count)
count_fits source lines count few = record {
  item = λ low. absurd (omega arith);
  count = λ at. few;
  beyond = λ more. absurd (omega arith);
}

-- one more write in front
pub item_more : (source : List ℕ) (lines i line : ℕ) (words : List ℕ) → line ≡ i % lines → words ≡ item_words source i → (line, words) ∷ item_writes source lines i ≡ item_writes source lines (i + 1)
item_more source lines i line words at are =
    let s : suc i ≡ i + 1 = omega arith in
    ap (λ (l : ℕ). (l, words) ∷ item_writes source lines i) at ∙ ap (λ (ws : List ℕ). (i % lines, ws) ∷ item_writes source lines i) are ∙ ap (λ (k : ℕ). item_writes source lines k) s

pub count_more : (lines i : ℕ) (words : List ℕ) → words ≡ count_words (i + 1) → (lines, words) ∷ count_writes lines i ≡ count_writes lines (i + 1)
count_more lines i words are =
    let s : suc i ≡ i + 1 = omega arith in
    ap (λ (ws : List ℕ). (lines, ws) ∷ count_writes lines i) are ∙ ap (λ (k : ℕ). count_writes lines k) s

one_of : (xs : List ℕ) (x : ℕ) → 0 < length xs → x ≡ get_or xs 0 0 → take 1 xs ≡ x ∷ []
one_of [] x some is = absurd (omega (arith, some))
one_of (y ∷ ys) x some is = ap (λ (z : ℕ). z ∷ []) (sym is)

first_of : (source : List ℕ) (i : ℕ) → get_or (drop i source) 0 0 ≡ slice_index source i
first_of source i = let e : i + 0 ≡ i = omega arith in get_or-drop i source 0 0 ∙ ap (λ (k : ℕ). get_or source k 0) e

-- the first items, and one more
pub take_more : (source : List ℕ) (i x : ℕ) → i < length source → x ≡ slice_index source i → take i source ++ (x ∷ []) ≡ take (i + 1) source
take_more source i x inside is =
    let e = take-add i 1 source in
    let d : take 1 (drop i source) ≡ x ∷ [] = one_of (drop i source) x (omega (arith, length-drop i source)) (is ∙ sym (first_of source i)) in
    ap (λ (s : List ℕ). take i source ++ s) (sym d) ∙ sym e

-- the fact of a ring is that of the ring
pub is_ring : (s source : List ℕ) (l lines : ℕ) → s ≡ source → l ≡ lines → IsRing (FitsRing s l) source lines
is_ring s source l lines e f =
    let same : IsRing (FitsRing source lines) source lines = record { gives = λ line words h. h; takes = λ line words h. h } in
    subst (λ (x : List ℕ). IsRing (FitsRing x l) source lines) (sym e) (subst (λ (y : ℕ). IsRing (FitsRing source y) source lines) (sym f) same)

pub is_ring_of : (s : List ℕ) (l lines n : ℕ) → l ≡ lines → n ≤ length s → IsRingOf (FitsRing s l) n lines
is_ring_of s l lines n f enough = record { source = s; ring = is_ring s s l lines refl f; enough = enough }

-- of a ring of one line, each item stands on that line
pub only_line_fits : (source : List ℕ) (i : ℕ) → i < length source → FitsRing source 1 0 (item_words source i)
only_line_fits source i inside = record {
  item = λ low. inr (i, record { inside = inside; place = omega arith; words_are = refl });
  count = λ at. absurd (omega arith);
  beyond = λ more. absurd (omega arith);
}
