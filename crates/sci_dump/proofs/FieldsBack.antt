-- The text of a field is read as its value.
use Rattle.std.proofs.Common.{if◌then◌else◌, ◌≡◌, ◌≢◌, ℕ, ◌*◌, ◌/◌, ◌%◌, ◌^◌, ◌<◌, ◌≤◌, ◌&&◌, ◌||◌, true, false, not, ltb, leb, ◌==◌, List, [], ◌∷◌, ◌++◌, length, get_or, slice_index, take, drop, All, Option, Some, None, refl, ap, ◌∙◌, subst, arith, zero, suc, codes, inl, inr, append_assoc, decimal, leb-true, ne_eqb, eq-eqb, lt-ltb, le-leb, length-append}
use Rattle.std.specs.Char.{is_ascii_digit, digit_value}
use Rattle.std.specs.Fmt.{digit_glyph}
use Rattle.std.specs.List.{list_all}
use Rattle.std.specs.Str.Parse.{digits_value}
use Rattle.std.proofs.lemmas.Bool.{and_parts, cases_lt, cases_Bool}
use Rattle.std.proofs.lemmas.Fmt.{digits_decimal, digits_value-decimal, decimal_nonempty, length-decimal-le, first_decimal, decimal_digit}
use Rattle.std.proofs.lemmas.Int.Digits.{digits_value_push}
use Rattle.std.proofs.lemmas.List.Folds.{list_all-append}
use Rattle.std.proofs.lemmas.Slice.Eq.{bytes_eq-Decides}
use Rattle.std.proofs.lemmas.Str.Parse.{IsNumeralModel, IsDigitsTest, numerals_by_value}
use Rattle.std.proofs.Math.Nat.{pow-succ', min-eq_left}
use Rattle.sci_core.specs.declared.lines.Line.{Line}
use Rattle.sci_dump.specs.Reading.{◌>>=◌, behind, digits_in_front, is_number, is_numeral, number_at, capped_at, is_hexadecimal, word_at, value_at, values_at, content_at, numbered_at, count_at}
use Rattle.sci_dump.specs.ReadBack.{IsContent}
use Rattle.sci_dump.specs.Text.{hexadecimal, values_text}
use Rattle.sci_dump.proofs.Deciding.{each_more}
use Rattle.sci_dump.proofs.Words.{each_below_1}

-- a part is read, and then the rest
pub then_read : {A B : Type 0} (r : Option A) (f : A → Option B) (x : A) (y : Option B) → r ≡ Some x → f x ≡ y → (r >>= f) ≡ y
then_read r f x y is next = rw is next

pub whole_front : {X : Type 0} (xs ys : List X) → take (length xs) (xs ++ ys) ≡ xs
whole_front [] ys = refl
whole_front {X} (x ∷ xs) ys = ap (λ (zs : List X). x ∷ zs) (whole_front xs ys)

pub whole_rest : {X : Type 0} (xs ys : List X) → drop (length xs) (xs ++ ys) ≡ ys
whole_rest [] ys = refl
whole_rest (x ∷ xs) ys = whole_rest xs ys

pub behind_own : (bytes rest : List ℕ) → behind bytes (bytes ++ rest) ≡ Some rest
unfolding behind
behind_own bytes rest = rw (whole_front bytes rest, whole_rest bytes rest, (bytes_eq-Decides bytes bytes).1 refl) refl

tells : IsDigitsTest (λ ds. list_all is_ascii_digit ds ≡ true)
tells = record {
  empty = refl;
  parts = λ c cs e.
      let k = and_parts (is_ascii_digit c) (list_all is_ascii_digit cs) e in
      let m = and_parts (leb 48 c) (leb c 57) k.0 in
      ((leb-true 48 c m.0, leb-true c 57 m.1), k.1);
  more = λ c cs k e. rw (le-leb 48 c k.0, le-leb c 57 k.1, e) refl;
}

own : IsNumeralModel (λ ds. list_all is_ascii_digit ds ≡ true) (digits_value 10)
own = numerals_by_value (λ ds. list_all is_ascii_digit ds ≡ true) tells

-- a text in front of which no digit stands
abbrev pub NoDigit : List ℕ → Type 0
NoDigit rest = digits_in_front rest ≡ 0

digits_before : (ds rest : List ℕ) → list_all is_ascii_digit ds ≡ true → NoDigit rest → digits_in_front (ds ++ rest) ≡ length ds
digits_before [] rest h none = none
digits_before (d ∷ ds) rest h none =
    let p = and_parts (is_ascii_digit d) (list_all is_ascii_digit ds) h in
    rw p.0 (omega (arith, digits_before ds rest p.1 none))

-- no zero stands before another digit
first_form : (v : ℕ) → v < 2 ^ 64 → (length (decimal v) == 1 || not (slice_index (decimal v) 0 == 48)) ≡ true
first_form v small = elim (cases_lt 0 v) [
  | inl more ↦ let f = first_decimal v more small in let n : get_or (decimal v) 0 0 ≢ 48 = omega (arith, f) in rw (ne_eqb (get_or (decimal v) 0 0) 48 n) (elim (cases_Bool (length (decimal v) == 1)) [ inl y ↦ rw y refl | inr y ↦ rw y refl ])
  | inr none ↦ let e : v ≡ 0 = omega arith in rw (e, decimal_digit 0 (omega arith)) refl
]

number_form : (v : ℕ) → v < 2 ^ 64 → is_number (decimal v) ≡ true
number_form v small =
    let some : leb 1 (length (decimal v)) ≡ true = le-leb 1 (length (decimal v)) (omega (arith, decimal_nonempty v small)) in
    let few : leb (length (decimal v)) 20 ≡ true = le-leb (length (decimal v)) 20 (length-decimal-le 20 v (omega arith) (omega (arith, small)) small) in
    let value : ltb (digits_value 10 (decimal v)) (2 ^ 64) ≡ true = rw (digits_value-decimal own v small) (lt-ltb v (2 ^ 64) small) in
    rw (some, few, first_form v small, value) refl

pub number_own : (v : ℕ) (rest : List ℕ) → v < 2 ^ 64 → NoDigit rest → number_at (decimal v ++ rest) ≡ Some (v, rest)
unfolding number_at
number_own v rest small none =
    let long : digits_in_front (decimal v ++ rest) ≡ length (decimal v) = digits_before (decimal v) rest (digits_decimal own v small) none in
    rw (long, whole_front (decimal v) rest, whole_rest (decimal v) rest, number_form v small, digits_value-decimal own v small) refl

numeral_form : (v : ℕ) → v < 2 ^ 64 → is_numeral (decimal v) ≡ true
numeral_form v small =
    let some : leb 1 (length (decimal v)) ≡ true = le-leb 1 (length (decimal v)) (omega (arith, decimal_nonempty v small)) in
    rw (some, first_form v small) refl

-- a number that is no greater
pub capped_own : (most v : ℕ) (rest : List ℕ) → v < 2 ^ 64 → v ≤ most → NoDigit rest → capped_at most (decimal v ++ rest) ≡ Some (v, rest)
unfolding capped_at
capped_own most v rest small within none =
    let long : digits_in_front (decimal v ++ rest) ≡ length (decimal v) = digits_before (decimal v) rest (digits_decimal own v small) none in
    rw (long, whole_front (decimal v) rest, whole_rest (decimal v) rest, numeral_form v small, digits_value-decimal own v small, min-eq_left within) refl

pub value_own : (v : ℕ) (rest : List ℕ) → v < 2 ^ 64 → NoDigit rest → value_at (codes " " ++ decimal v ++ rest) ≡ Some (v, rest)
unfolding value_at
value_own v rest small none = then_read (behind (codes " ") (codes " " ++ (decimal v ++ rest))) number_at (decimal v ++ rest) (Some (v, rest)) (behind_own (codes " ") (decimal v ++ rest)) (number_own v rest small none)

-- numbers of 64 bits
abbrev AreSmall : List ℕ → Type 0
AreSmall values = All (λ v. v < 2 ^ 64) values

-- each value stands behind a space, so no digit stands behind one
no_digit_behind : (values rest : List ℕ) → NoDigit rest → NoDigit (values_text values ++ rest)
no_digit_behind [] rest none = none
no_digit_behind (v ∷ vs) rest none = refl

pub values_own : (values rest : List ℕ) → AreSmall values → NoDigit rest → values_at (length values) (values_text values ++ rest) ≡ Some (values, rest)
unfolding values_at
values_own [] rest small none = refl
values_own (v ∷ vs) rest small none =
    let first : v < 2 ^ 64 = small 0 v (omega (arith)) in
    let others : AreSmall vs = λ i d lt. small (suc i) d (omega (arith, lt)) in
    let more : List ℕ = values_text vs ++ rest in
    let text : values_text (v ∷ vs) ++ rest ≡ codes " " ++ (decimal v ++ more) = append_assoc (codes " " ++ decimal v) (values_text vs) rest in
    ap (values_at (length (v ∷ vs))) text
    ∙ (then_read (value_at (codes " " ++ (decimal v ++ more))) (λ value. values_at (length vs) value.1 >>= λ values. Some (value.0 ∷ values.0, values.1)) (v, more) (Some (v ∷ vs, rest))
    (value_own v more first (no_digit_behind vs rest none))
    (then_read (values_at (length vs) more) (λ values. Some (v ∷ values.0, values.1)) (vs, rest) (Some (v ∷ vs, rest)) (values_own vs rest others none) refl))

pub content_own : (line : Line) (rest : List ℕ) → IsContent line → content_at (values_text (line.stamp ∷ line.words) ++ (codes "\n" ++ rest)) ≡ Some (line, rest)
unfolding content_at
content_own line rest is =
    let left : List ℕ = codes "\n" ++ rest in
    let words : List ℕ = values_text line.words ++ left in
    let text : values_text (line.stamp ∷ line.words) ++ left ≡ codes " " ++ (decimal line.stamp ++ words) = append_assoc (codes " " ++ decimal line.stamp) (values_text line.words) left in
    let eight : values_at 8 words ≡ Some (line.words, left) = subst (λ (k : ℕ). values_at k words ≡ Some (line.words, left)) is.eight (values_own line.words left is.words refl) in
    ap content_at text
    ∙ (then_read (value_at (codes " " ++ (decimal line.stamp ++ words))) (λ stamp. values_at 8 stamp.1 >>= λ words. behind (codes "\n") words.1 >>= λ rest. Some (record { words = words.0; stamp = stamp.0 }, rest)) (line.stamp, words) (Some (line, rest))
    (value_own line.stamp words is.stamp (no_digit_behind line.words left refl))
    (then_read (values_at 8 words) (λ words. behind (codes "\n") words.1 >>= λ rest. Some (record { words = words.0; stamp = line.stamp }, rest)) (line.words, left) (Some (line, rest)) eight
    (then_read (behind (codes "\n") left) (λ rest. Some (record { words = line.words; stamp = line.stamp }, rest)) rest (Some (line, rest)) (behind_own (codes "\n") rest) refl)))

pub numbered_own : (number : ℕ) (rest : List ℕ) → number < 2 ^ 64 → NoDigit rest → numbered_at number (decimal number ++ rest) ≡ Some rest
unfolding numbered_at
numbered_own number rest small none =
    then_read (number_at (decimal number ++ rest)) (λ found. if found.0 == number then Some found.1 else None) (number, rest) (Some rest) (number_own number rest small none) (rw (eq-eqb number number refl) refl)

-- another number
pub numbered_other : (number other : ℕ) (rest : List ℕ) → other < 2 ^ 64 → other ≢ number → NoDigit rest → numbered_at number (decimal other ++ rest) ≡ None
unfolding numbered_at
numbered_other number other rest small differ none =
    then_read (number_at (decimal other ++ rest)) (λ found. if found.0 == number then Some found.1 else None) (other, rest) None (number_own other rest small none) (rw (ne_eqb other number differ) refl)

pub count_own : (most n : ℕ) (rest : List ℕ) → n < 2 ^ 64 → 1 ≤ n → n ≤ most → NoDigit rest → count_at most (decimal n ++ rest) ≡ Some (n, rest)
unfolding count_at
count_own most n rest small some few none =
    then_read (number_at (decimal n ++ rest)) (λ found. if leb 1 found.0 && leb found.0 most then Some found else None) (n, rest) (Some (n, rest)) (number_own n rest small none) (rw (le-leb 1 n some, le-leb n most few) refl)

-- the digit of a number below 16, and the number of that digit
glyph_value : (d : ℕ) → d < 16 → digit_value (digit_glyph false d) ≡ d
glyph_value =
    let P : ℕ → Type 0 = λ d. digit_value (digit_glyph false d) ≡ d in
    each_more P 15 (each_more P 14 (each_more P 13 (each_more P 12 (each_more P 11 (each_more P 10 (each_more P 9 (each_more P 8 (each_more P 7 (each_more P 6 (each_more P 5 (each_more P 4 (each_more P 3 (each_more P 2 (each_more P 1 (each_below_1 P refl) refl) refl) refl) refl) refl) refl) refl) refl) refl) refl) refl) refl) refl) refl) refl

glyph_form : (d : ℕ) → d < 16 → is_hexadecimal (digit_glyph false d) ≡ true
glyph_form =
    let P : ℕ → Type 0 = λ d. is_hexadecimal (digit_glyph false d) ≡ true in
    each_more P 15 (each_more P 14 (each_more P 13 (each_more P 12 (each_more P 11 (each_more P 10 (each_more P 9 (each_more P 8 (each_more P 7 (each_more P 6 (each_more P 5 (each_more P 4 (each_more P 3 (each_more P 2 (each_more P 1 (each_below_1 P refl) refl) refl) refl) refl) refl) refl) refl) refl) refl) refl) refl) refl) refl) refl) refl

hexadecimal_long : (k n : ℕ) → length (hexadecimal k n) ≡ k
unfolding hexadecimal
hexadecimal_long zero n = refl
hexadecimal_long (suc k) n = omega (arith, length-append (hexadecimal k (n / 16)) (digit_glyph false (n % 16) ∷ []), hexadecimal_long k (n / 16))

hexadecimal_form : (k n : ℕ) → list_all is_hexadecimal (hexadecimal k n) ≡ true
unfolding hexadecimal
hexadecimal_form zero n = refl
hexadecimal_form (suc k) n = rw (list_all-append is_hexadecimal (hexadecimal k (n / 16)) (digit_glyph false (n % 16) ∷ []), hexadecimal_form k (n / 16), glyph_form (n % 16) (omega arith)) refl

hexadecimal_value : (k n : ℕ) → n < 16 ^ k → digits_value 16 (hexadecimal k n) ≡ n
unfolding hexadecimal
hexadecimal_value zero n small = let e : 0 ≡ n = omega (arith, small) in e
hexadecimal_value (suc k) n small =
    let power : 16 ^ suc k ≡ 16 * 16 ^ k = pow-succ' 16 k in
    let above = hexadecimal_value k (n / 16) (omega (arith, small, power)) in
    let push = digits_value_push 16 (hexadecimal k (n / 16)) (digit_glyph false (n % 16)) in
    let last = glyph_value (n % 16) (omega arith) in
    omega (arith, above, push, last)

pub word_own : (w : ℕ) (rest : List ℕ) → w < 2 ^ 64 → word_at (hexadecimal 16 w ++ rest) ≡ Some (w, rest)
unfolding word_at
word_own w rest small =
    let text : List ℕ = hexadecimal 16 w ++ rest in
    let long = hexadecimal_long 16 w in
    let front : take 16 text ≡ hexadecimal 16 w = subst (λ (k : ℕ). take k text ≡ hexadecimal 16 w) long (whole_front (hexadecimal 16 w) rest) in
    let left : drop 16 text ≡ rest = subst (λ (k : ℕ). drop k text ≡ rest) long (whole_rest (hexadecimal 16 w) rest) in
    let enough : leb 16 (length text) ≡ true = le-leb 16 (length text) (omega (arith, long, length-append (hexadecimal 16 w) rest)) in
    rw (front, left, enough, hexadecimal_form 16 w, hexadecimal_value 16 w (omega (arith, small))) refl
