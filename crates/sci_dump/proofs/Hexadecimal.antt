-- The value of 16 lower-case hexadecimal digits, and the digits of a word.
use Rattle.std.proofs.Common.{◌≡◌, ℕ, ◌+◌, ◌-◌, ◌*◌, ◌^◌, ◌<◌, ◌≤◌, Bool, true, false, ◌||◌, ◌&&◌, ◌⊎◌, leb, List, [], ◌∷◌, length, get_or, take, arith, suc, zero, length-take, refl, sym, ap, ◌∙◌, ◌/◌, ◌%◌, ◌++◌, eqb, replicate, append_assoc, append-nil, length-append, inl, inr}
use Rattle.std.specs.Char.{is_ascii_digit, digit_value}
use Rattle.std.specs.List.{list_all}
use Rattle.std.specs.Str.Parse.{AllDigits, digits_value}
use Rattle.std.specs.Fmt.{digits, digits_onto, digit_glyph, padded_integral, format_spec, char_count}
use Rattle.std.proofs.Math.Nat.{pow-le-pow_right, pow-succ'}
use Rattle.std.proofs.lemmas.Bool.{and_parts, cases_lt, leb-true, le-ltb, lt-ltb}
use Rattle.std.proofs.lemmas.Str.{digit_value_digit}
use Rattle.std.proofs.lemmas.Bool.Decides.{nat_tests}
use Rattle.sci_dump.specs.Text.{hexadecimal}
use Rattle.std.proofs.lemmas.Int.Digits.{digits_value_more, digits_value-lt}
use Rattle.sci_dump.specs.Reading.{is_hexadecimal}

pub cases_or : (a b : Bool) → (a || b) ≡ true → (a ≡ true) ⊎ (b ≡ true)
cases_or true b h = inl refl
cases_or false b h = inr h

pub letter_value : (b : ℕ) → 97 ≤ b → b ≤ 102 → digit_value b ≡ b - 87
letter_value b low high = rw (le-ltb b 48 (omega arith), le-ltb b 58 (omega arith), le-ltb b 65 (omega arith), le-ltb b 91 (omega arith), le-ltb b 97 (omega arith), lt-ltb b 123 (omega arith)) refl

pub digit_small : (b : ℕ) → is_hexadecimal b ≡ true → digit_value b < 16
digit_small b h =
    elim (cases_or (is_ascii_digit b) (leb 97 b && leb b 102) h) [
      | inl digit ↦ let p = and_parts _ _ digit in let v = digit_value_digit b (leb-true _ _ p.0, leb-true _ _ p.1) in omega (arith, v, leb-true _ _ p.1)
      | inr letter ↦
          let p = and_parts _ _ letter in
          let low : 97 ≤ b = leb-true _ _ p.0 in
          let high : b ≤ 102 = leb-true _ _ p.1 in
          let e = letter_value b low high in
          omega (arith, e)
    ]

all_digits : (n : ℕ) (bs : List ℕ) → list_all is_hexadecimal bs ≡ true → AllDigits 16 (take n bs)
all_digits zero bs h = tt
all_digits (suc n) [] h = tt
all_digits (suc n) (b ∷ bs) h = let p = and_parts _ _ h in (digit_small b p.0, all_digits n bs p.1)

pub digit_at : (bs : List ℕ) (i : ℕ) → list_all is_hexadecimal bs ≡ true → i < length bs → is_hexadecimal (get_or bs i 0) ≡ true
digit_at [] i h lt = absurd (omega arith)
digit_at (b ∷ bs) zero h lt = (and_parts _ _ h).0
digit_at (b ∷ bs) (suc i) h lt = digit_at bs i (and_parts _ _ h).1 (omega arith)

pub front_small : (bs : List ℕ) (i : ℕ) → list_all is_hexadecimal bs ≡ true → length bs ≡ 16 → i < length bs → digits_value 16 (take i bs) < 16 ^ 15
front_small bs i h len lt =
    let v = digits_value-lt 16 (take i bs) (all_digits i bs h) in
    let short : length (take i bs) ≤ 15 = omega (arith, length-take i bs) in
    let p : 16 ^ length (take i bs) ≤ 16 ^ 15 = pow-le-pow_right (omega arith) short in
    omega arith

pub front_more : (bs : List ℕ) (i : ℕ) → i < length bs → digits_value 16 (take (i + 1) bs) ≡ digits_value 16 (take i bs) * 16 + digit_value (get_or bs i 0)
front_more bs i lt = digits_value_more 16 bs i lt

replicate_push : (m : ℕ) → ◌++◌ {A = ℕ} (replicate m 48) (48 ∷ []) ≡ 48 ∷ replicate m 48
replicate_push zero = refl
replicate_push (suc m) = ap (λ (ds : List ℕ). 48 ∷ ds) (replicate_push m)

zeros : (m : ℕ) → hexadecimal m 0 ≡ replicate m 48
unfolding hexadecimal
zeros zero = refl
zeros (suc m) = ap (λ (ds : List ℕ). ◌++◌ {A = ℕ} ds (48 ∷ [])) (zeros m) ∙ replicate_push m

-- what is written of a number below 16 ^ m, with zeros before it, are its last m digits
record Written (m k n : ℕ) : Type 0 where
  digits : List ℕ
  onto : (acc : List ℕ) → digits_onto k 16 false n acc ≡ digits ++ acc
  padded : hexadecimal m n ≡ replicate (m - length digits) 48 ++ digits
  short : length digits ≤ m

one_digit : (m k n : ℕ) → n / 16 ≡ 0 → Written (suc m) (suc k) n
unfolding hexadecimal
one_digit m k n e = let count : suc m - 1 ≡ m = omega arith in record {
  digits = digit_glyph false (n % 16) ∷ [];
  onto = λ acc. rw e refl;
  padded = ap (λ (h : ℕ). hexadecimal m h ++ digit_glyph false (n % 16) ∷ []) e ∙ (ap (λ (ds : List ℕ). ds ++ digit_glyph false (n % 16) ∷ []) (zeros m) ∙ sym (ap (λ (z : ℕ). replicate z 48 ++ digit_glyph false (n % 16) ∷ []) count));
  short = omega arith;
}

more_digits : (m k n : ℕ) → 0 < n / 16 → Written m k (n / 16) → Written (suc m) (suc k) n
unfolding hexadecimal
more_digits m k n some w =
    let last : List ℕ = digit_glyph false (n % 16) ∷ [] in
    let count : suc m - length (w.digits ++ last) ≡ m - length w.digits = omega (arith, length-append w.digits last) in
    record {
      digits = w.digits ++ last;
      onto = λ acc. let not_zero : eqb (n / 16) 0 ≡ false = grind (arith, nat_tests) in rw not_zero (w.onto (digit_glyph false (n % 16) ∷ acc) ∙ sym (append_assoc w.digits last acc));
      padded = ap (λ (ds : List ℕ). ds ++ last) w.padded ∙ (append_assoc (replicate (m - length w.digits) 48) w.digits last ∙ sym (ap (λ (z : ℕ). replicate z 48 ++ (w.digits ++ last)) count));
      short = omega (arith, length-append w.digits last, w.short);
    }

written : (m k n : ℕ) → n < 16 ^ m → m ≤ k → 0 < m → Written m k n
written zero k n small le pos = absurd (omega arith)
written (suc m) zero n small le pos = absurd (omega arith)
written (suc m) (suc k) n small le pos =
    elim (cases_lt 0 (n / 16)) [
      | inl some ↦
          let power : 16 ^ suc m ≡ 16 * 16 ^ m = pow-succ' 16 m in
          more_digits m k n some (written m k (n / 16) (omega (arith, small, power)) (omega arith) (elim (cases_lt 0 m) [ inl p ↦ p | inr none ↦ absurd (let z : m ≡ 0 = omega arith in let s = rw z at small in omega (arith, s, some)) ]))
      | inr none ↦ one_digit m k n (omega arith)
    ]

pub word_written : (n : ℕ) → n < 2 ^ 64 → padded_integral (format_spec 32 0 4 16 (2 ^ 64 - 1)) false [] (digits 16 false n) ≡ hexadecimal 16 n
unfolding padded_integral char_count digits
word_written n small =
    let w = written 16 64 n (omega arith) (omega arith) (omega arith) in
    let e : digits_onto 64 16 false n [] ≡ w.digits = w.onto [] ∙ append-nil w.digits in
    let room : 16 - length w.digits - 0 - 0 ≡ 16 - length w.digits = omega arith in
    rw (e, room, w.padded) (ap (λ (ds : List ℕ). replicate (16 - length w.digits) 48 ++ ds) (append-nil w.digits))
