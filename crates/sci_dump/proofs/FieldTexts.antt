-- The field that is read is the text of its value.
use Rattle.std.proofs.Common.{if◌then◌else◌, ◌≡◌, ℕ, ◌+◌, ◌-◌, ◌*◌, ◌/◌, ◌%◌, ◌^◌, ◌<◌, ◌≤◌, ◌&&◌, ◌||◌, true, false, not, leb, ◌==◌, List, [], ◌∷◌, ◌++◌, length, get_or, slice_index, take, drop, Some, None, refl, sym, ap, ◌∙◌, subst, arith, zero, suc, codes, inl, inr, length-take, take-append-drop, append_assoc, decimal, take_all, ltb-true, leb-true, eqb-true}
use Rattle.std.specs.Char.{is_ascii_digit, digit_value}
use Rattle.std.specs.Fmt.{digit_glyph}
use Rattle.std.specs.List.{list_all}
use Rattle.std.specs.Str.Parse.{AllDigits, digits_value}
use Rattle.std.proofs.lemmas.Bool.{and_parts, le-ltb, lt-ltb, cases_Bool}
use Rattle.std.proofs.lemmas.Fmt.{decimal-digits_value}
use Rattle.std.proofs.lemmas.List.{take_more}
use Rattle.std.proofs.lemmas.Str.{digit_value_digit}
use Rattle.std.proofs.lemmas.Str.Parse.{tells_digits, numerals_by_value}
use Rattle.sci_core.specs.declared.lines.Line.{Line}
use Rattle.sci_dump.specs.Reading.{◌>>=◌, behind, digits_in_front, is_number, number_at, is_hexadecimal, word_at, value_at, values_at, content_at, numbered_at, count_at}
use Rattle.sci_dump.specs.Text.{hexadecimal, values_text}
use Rattle.sci_dump.proofs.Digits.{all_digits}
use Rattle.sci_dump.proofs.Hexadecimal as hex
use Rattle.sci_dump.proofs.Parts.{front_digits}
use Rattle.sci_dump.proofs.Inverting.{both_some, some_of, test_some, behind_text}

one_zero : (ds : List ℕ) → (length ds == 1 || not (slice_index ds 0 == 48)) ≡ true → get_or ds 0 0 ≡ 48 → length ds ≡ 1
one_zero ds h zero_first = elim (cases_Bool (length ds == 1)) [
  | inl one ↦ eqb-true (length ds) 1 one
  | inr more ↦ absurd (let e : (length ds == 1 || not (slice_index ds 0 == 48)) ≡ false = rw (more, zero_first) refl in cc)
]

digits_whole : (ds : List ℕ) → list_all is_ascii_digit ds ≡ true → AllDigits 10 ds
digits_whole ds h = subst (λ (x : List ℕ). AllDigits 10 x) (take_all (length ds) ds (omega arith)) (all_digits (length ds) ds h)

number_digits : (ds : List ℕ) → list_all is_ascii_digit ds ≡ true → is_number ds ≡ true → decimal (digits_value 10 ds) ≡ ds
number_digits ds digits h =
    let a = and_parts _ _ h in
    let b = and_parts _ _ a.0 in
    let d = and_parts _ _ b.0 in
    decimal-digits_value (numerals_by_value (AllDigits 10) tells_digits) ds (digits_whole ds digits) (leb-true 1 (length ds) d.0) (one_zero ds b.1) (ltb-true (digits_value 10 ds) (2 ^ 64) a.1)

pub number_text : (text rest : List ℕ) (v : ℕ) → number_at text ≡ Some (v, rest) → text ≡ decimal v ++ rest
unfolding number_at
number_text text rest v h =
    let ds = take (digits_in_front text) text in
    let (test, is) = test_some (is_number ds) (digits_value 10 ds, drop (digits_in_front text) text) (v, rest) h in
    let value : digits_value 10 ds ≡ v = ap (λ (p : ℕ × List ℕ). p.0) is in
    let left : drop (digits_in_front text) text ≡ rest = ap (λ (p : ℕ × List ℕ). p.1) is in
    let front : decimal v ≡ ds = ap decimal (sym value) ∙ number_digits ds (front_digits text) test in
    sym (take-append-drop (digits_in_front text) text) ∙ (ap (λ (xs : List ℕ). xs ++ drop (digits_in_front text) text) (sym front) ∙ ap (λ (xs : List ℕ). decimal v ++ xs) left)

-- the digit that is written of the value of a digit
glyph : (b : ℕ) → is_hexadecimal b ≡ true → digit_glyph false (digit_value b) ≡ b
glyph b h =
    elim (hex.cases_or (is_ascii_digit b) (leb 97 b && leb b 102) h) [
      | inl digit ↦ let p = and_parts _ _ digit in let low = leb-true _ _ p.0 in let high = leb-true _ _ p.1 in let v = digit_value_digit b (low, high) in
          let small : digit_value b < 10 = omega (arith, v, high) in rw (lt-ltb (digit_value b) 10 small) (omega (arith, v, low))
      | inr letter ↦
          let p = and_parts _ _ letter in
          let low : 97 ≤ b = leb-true _ _ p.0 in
          let high : b ≤ 102 = leb-true _ _ p.1 in
          let v : digit_value b ≡ b - 87 = hex.letter_value b low high in
          let large : 10 ≤ digit_value b = omega (arith, v, low) in
          rw (le-ltb (digit_value b) 10 large) (omega (arith, v, low))
    ]

-- the first digits of a word, written again
word_front : (bs : List ℕ) (i : ℕ) → list_all is_hexadecimal bs ≡ true → i ≤ length bs → hexadecimal i (digits_value 16 (take i bs)) ≡ take i bs
unfolding hexadecimal
word_front bs zero h le = refl
word_front bs (suc i) h le =
    let lt : i < length bs = omega (arith, le) in
    let b = get_or bs i 0 in
    let is = hex.digit_at bs i h lt in
    let small = hex.digit_small b is in
    let value : digits_value 16 (take (i + 1) bs) ≡ digits_value 16 (take i bs) * 16 + digit_value b = hex.front_more bs i lt in
    let high : digits_value 16 (take (i + 1) bs) / 16 ≡ digits_value 16 (take i bs) = omega (arith, value, small) in
    let low : digits_value 16 (take (i + 1) bs) % 16 ≡ digit_value b = omega (arith, value, small) in
    let next : i + 1 ≡ suc i = omega arith in
    subst (λ (j : ℕ). hexadecimal (suc i) (digits_value 16 (take j bs)) ≡ take j bs) next
    (ap (λ (n : ℕ). hexadecimal i n ++ digit_glyph false (digits_value 16 (take (i + 1) bs) % 16) ∷ []) high
    ∙ (ap (λ (n : ℕ). hexadecimal i (digits_value 16 (take i bs)) ++ digit_glyph false n ∷ []) low
    ∙ (ap (λ (n : ℕ). hexadecimal i (digits_value 16 (take i bs)) ++ n ∷ []) (glyph b is)
    ∙ (ap (λ (ds : List ℕ). ds ++ b ∷ []) (word_front bs i h (omega (arith, le))) ∙ sym (take_more bs i 0 lt)))))

pub word_text : (text rest : List ℕ) (w : ℕ) → word_at text ≡ Some (w, rest) → text ≡ hexadecimal 16 w ++ rest
unfolding word_at
word_text text rest w h =
    let ds = take 16 text in
    let (test, is) = test_some (leb 16 (length text) && list_all is_hexadecimal ds) (digits_value 16 ds, drop 16 text) (w, rest) h in
    let a = and_parts (leb 16 (length text)) (list_all is_hexadecimal ds) test in
    let value : digits_value 16 ds ≡ w = ap (λ (p : ℕ × List ℕ). p.0) is in
    let left : drop 16 text ≡ rest = ap (λ (p : ℕ × List ℕ). p.1) is in
    let long : length ds ≡ 16 = omega (arith, length-take 16 text, leb-true 16 (length text) a.0) in
    let all : take 16 ds ≡ ds = take_all 16 ds (omega (arith, long)) in
    let front : hexadecimal 16 w ≡ ds = ap (hexadecimal 16) (sym value) ∙ (ap (λ (xs : List ℕ). hexadecimal 16 (digits_value 16 xs)) (sym all) ∙ (word_front ds 16 a.1 (omega (arith, long)) ∙ all)) in
    sym (take-append-drop 16 text) ∙ (ap (λ (xs : List ℕ). xs ++ drop 16 text) (sym front) ∙ ap (λ (xs : List ℕ). hexadecimal 16 w ++ xs) left)

pub value_text : (text rest : List ℕ) (v : ℕ) → value_at text ≡ Some (v, rest) → text ≡ (codes " " ++ decimal v) ++ rest
unfolding value_at
value_text text rest v h =
    let (mid, is, next) = both_some (behind (codes " ") text) number_at (v, rest) h in
    behind_text (codes " ") text mid is ∙ (ap (λ (xs : List ℕ). codes " " ++ xs) (number_text mid rest v next) ∙ sym (append_assoc (codes " ") (decimal v) rest))

pub values_read : (k : ℕ) (text rest values : List ℕ) → values_at k text ≡ Some (values, rest) → text ≡ values_text values ++ rest
unfolding values_at
values_read zero text rest values h =
    let e = some_of ([], text) (values, rest) h in
    let none : [] ≡ values = ap (λ (p : List ℕ × List ℕ). p.0) e in
    let same : text ≡ rest = ap (λ (p : List ℕ × List ℕ). p.1) e in
    same ∙ ap (λ (vs : List ℕ). values_text vs ++ rest) none
values_read (suc k) text rest values h =
    let (value, is, next) = both_some (value_at text) (λ value. values_at k value.1 >>= λ values. Some (value.0 ∷ values.0, values.1)) (values, rest) h in
    let (more, are, last) = both_some (values_at k value.1) (λ values. Some (value.0 ∷ values.0, values.1)) (values, rest) next in
    let e = some_of (value.0 ∷ more.0, more.1) (values, rest) last in
    let all : value.0 ∷ more.0 ≡ values = ap (λ (p : List ℕ × List ℕ). p.0) e in
    let left : more.1 ≡ rest = ap (λ (p : List ℕ × List ℕ). p.1) e in
    value_text text value.1 value.0 is
    ∙ (ap (λ (xs : List ℕ). (codes " " ++ decimal value.0) ++ xs) (values_read k value.1 more.1 more.0 are)
    ∙ (sym (append_assoc (codes " " ++ decimal value.0) (values_text more.0) more.1)
    ∙ (ap (λ (xs : List ℕ). values_text (value.0 ∷ more.0) ++ xs) left ∙ ap (λ (vs : List ℕ). values_text vs ++ rest) all)))

pub content_read : (text rest : List ℕ) (line : Line) → content_at text ≡ Some (line, rest) → text ≡ (values_text (line.stamp ∷ line.words) ++ codes "\n") ++ rest
unfolding content_at
content_read text rest line h =
    let (stamp, is, next) = both_some (value_at text) (λ stamp. values_at 8 stamp.1 >>= λ words. behind (codes "\n") words.1 >>= λ rest. Some (record { words = words.0; stamp = stamp.0 }, rest)) (line, rest) h in
    let (words, are, last) = both_some (values_at 8 stamp.1) (λ words. behind (codes "\n") words.1 >>= λ rest. Some (record { words = words.0; stamp = stamp.0 }, rest)) (line, rest) next in
    let (left, end, all) = both_some (behind (codes "\n") words.1) (λ rest. Some (record { words = words.0; stamp = stamp.0 }, rest)) (line, rest) last in
    let made : Line = record { words = words.0; stamp = stamp.0 } in
    let e = some_of (made, left) (line, rest) all in
    let same : made ≡ line = ap (λ (p : Line × List ℕ). p.0) e in
    let over : left ≡ rest = ap (λ (p : Line × List ℕ). p.1) e in
    let one : List ℕ = codes " " ++ decimal stamp.0 in
    value_text text stamp.1 stamp.0 is
    ∙ (ap (λ (xs : List ℕ). one ++ xs) (values_read 8 stamp.1 words.1 words.0 are ∙ ap (λ (xs : List ℕ). values_text words.0 ++ xs) (behind_text (codes "\n") words.1 left end))
    ∙ (sym (append_assoc one (values_text words.0) (codes "\n" ++ left))
    ∙ (sym (append_assoc (values_text (stamp.0 ∷ words.0)) (codes "\n") left)
    ∙ (ap (λ (l : Line). (values_text (l.stamp ∷ l.words) ++ codes "\n") ++ left) same ∙ ap (λ (xs : List ℕ). (values_text (line.stamp ∷ line.words) ++ codes "\n") ++ xs) over))))

pub numbered_read : (number : ℕ) (text rest : List ℕ) → numbered_at number text ≡ Some rest → text ≡ decimal number ++ rest
unfolding numbered_at
numbered_read number text rest h =
    let (found, is, next) = both_some (number_at text) (λ found. if found.0 == number then Some found.1 else None) rest h in
    let (test, left) = test_some (found.0 == number) found.1 rest next in
    number_text text found.1 found.0 is ∙ (ap (λ (n : ℕ). decimal n ++ found.1) (eqb-true found.0 number test) ∙ ap (λ (xs : List ℕ). decimal number ++ xs) left)

pub count_read : (most : ℕ) (text rest : List ℕ) (n : ℕ) → count_at most text ≡ Some (n, rest) → text ≡ decimal n ++ rest
unfolding count_at
count_read most text rest n h =
    let (found, is, next) = both_some (number_at text) (λ found. if leb 1 found.0 && leb found.0 most then Some found else None) (n, rest) h in
    let (test, same) = test_some (leb 1 found.0 && leb found.0 most) found (n, rest) next in
    number_text text rest n (is ∙ ap (λ (p : ℕ × List ℕ). Some p) same)
