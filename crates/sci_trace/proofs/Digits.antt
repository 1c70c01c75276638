-- The table of the numbers below a hundred.
use Rattle.std.proofs.Common.{◌≡◌, ◌∙◌, ◌<◌, ◌≤◌, ◌+◌, ◌-◌, ◌/◌, ◌%◌, ℕ, zero, suc, Bool, true, false, ◌&&◌, T, List, [], ◌∷◌, ◌++◌, codes, get_or, take, take-take, ap, sym, subst, inl, inr, arith, eq-zero-or-pos, eqb, eqb→eq}
use Rattle.std.specs.Fmt.{decimal}
use Rattle.std.proofs.lemmas.Fmt.{decimal_digit, decimal_step}
use lib.Ieee.Fits.{and_l, and_r}
use Rattle.sci_trace.specs.declared.numbers.TheConstants.{NUMBERS}

-- the bytes begin with these three
abbrev begins : List ℕ → ℕ → ℕ → ℕ → Bool
begins (a ∷ b ∷ c ∷ rest) x y z = eqb a x && (eqb b y && eqb c z)
begins _ _ _ _ = false

front_is : (bytes : List ℕ) (x y z : ℕ) → T (begins bytes x y z) → take 3 bytes ≡ x ∷ y ∷ z ∷ []
front_is [] x y z t = elim t [ ]
front_is (a ∷ []) x y z t = elim t [ ]
front_is (a ∷ b ∷ []) x y z t = elim t [ ]
front_is (a ∷ b ∷ c ∷ rest) x y z t =
    let behind = and_r (eqb a x) _ t in
    let first : a ≡ x = eqb→eq a x (and_l _ _ t) in
    let second : b ≡ y = eqb→eq b y (and_l _ _ behind) in
    let third : c ≡ z = eqb→eq c z (and_r (eqb b y) _ behind) in
    ap (λ n. n ∷ b ∷ c ∷ []) first ∙ ap (λ n. x ∷ n ∷ c ∷ []) second ∙ ap (λ n. x ∷ y ∷ n ∷ []) third

-- it holds of each number below this one
abbrev each : (ℕ → Bool) → ℕ → Bool
each holds zero = true
each holds (suc n) = holds n && each holds n

below : (holds : ℕ → Bool) (n p : ℕ) → T (each holds n) → p < n → T (holds p)
below holds zero p t less = absurd (omega arith)
below holds (suc n) p t less =
    elim (eq-zero-or-pos (n - p)) [
      | inl z ↦ let e : p ≡ n = omega arith in rw e (and_l _ _ t)
      | inr g ↦ below holds n p (and_r _ (each holds n) t) (omega arith)
    ]

abbrev row : ℕ → List ℕ
row n = get_or NUMBERS n []

-- a digit, and two spaces behind it
abbrev is_digit : ℕ → Bool
is_digit n = begins (row n) (48 + n) 32 32

-- ten and so many more, in two digits, and a space behind them
abbrev is_more : ℕ → Bool
is_more n = begins (row (10 + n)) (48 + (10 + n) / 10) (48 + (10 + n) % 10) 32

digit_front : (n : ℕ) → n < 10 → take 3 (row n) ≡ (48 + n) ∷ 32 ∷ 32 ∷ []
digit_front n less = front_is (row n) (48 + n) 32 32 (below is_digit 10 n tt less)

pub one_digit : (n : ℕ) → n < 10 → take 1 (row n) ≡ decimal n
one_digit n less = sym (take-take 1 3 (row n) (omega arith)) ∙ ap (take 1) (digit_front n less) ∙ sym (decimal_digit n less)

pub one_spaced : (n : ℕ) → n < 10 → take 2 (row n) ≡ decimal n ++ codes " "
one_spaced n less =
    sym (take-take 2 3 (row n) (omega arith)) ∙ ap (take 2) (digit_front n less) ∙ ap (λ (x : List ℕ). x ++ codes " ") (sym (decimal_digit n less))

-- a number below a hundred: the digit of its tens, and that of its ones
two_digits : (n : ℕ) → 10 ≤ n → n < 100 → decimal n ≡ (48 + n / 10) ∷ (48 + n % 10) ∷ []
two_digits n least less =
    decimal_step n least (omega (arith, less)) ∙ ap (λ (x : List ℕ). x ++ ((48 + n % 10) ∷ [])) (decimal_digit (n / 10) (omega (arith, less)))

more_front : (n : ℕ) → 10 ≤ n → n < 100 → take 3 (row n) ≡ (48 + n / 10) ∷ (48 + n % 10) ∷ 32 ∷ []
more_front n least less =
    let m = n - 10 in
    let e : 10 + m ≡ n = omega (arith, least) in
    subst (λ (k : ℕ). take 3 (row k) ≡ (48 + k / 10) ∷ (48 + k % 10) ∷ 32 ∷ []) e
    (front_is (row (10 + m)) (48 + (10 + m) / 10) (48 + (10 + m) % 10) 32 (below is_more 90 m tt (omega (arith, least, less))))

pub more_digits : (n : ℕ) → 10 ≤ n → n < 100 → take 2 (row n) ≡ decimal n
more_digits n least less =
    sym (take-take 2 3 (row n) (omega arith)) ∙ ap (take 2) (more_front n least less) ∙ sym (two_digits n least less)

pub more_spaced : (n : ℕ) → 10 ≤ n → n < 100 → take 3 (row n) ≡ decimal n ++ codes " "
more_spaced n least less =
    more_front n least less ∙ ap (λ (x : List ℕ). x ++ codes " ") (sym (two_digits n least less))
