use Rattle.std.proofs.Common.{◌≡◌, ℕ, zero, suc, ◌+◌, ◌%◌, ◌^◌, ◌<◌, List, [], ◌∷◌, length, get_or, refl, ap, ◌∙◌, arith}
use Rattle.sci_work.specs.Plain.{sums, plain}

pub length-sums : (left : ℕ) (xs : List ℕ) → length (sums left xs) ≡ length xs
unfolding sums
length-sums left [] = refl
length-sums left (x ∷ xs) = ap suc (length-sums x xs)

pub length-plain : (cells : List ℕ) (p : ℕ) → length (plain cells p) ≡ length cells
unfolding plain
length-plain cells zero = refl
length-plain cells (suc p) = length-sums 0 (plain cells p) ∙ length-plain cells p

-- a cell one phase on
pub get_or-sums : (left : ℕ) (xs : List ℕ) (i : ℕ) → i < length xs → get_or (sums left xs) i 0 ≡ (get_or (left ∷ xs) i 0 + get_or xs i 0 + get_or xs (i + 1) 0) % 2 ^ 64
unfolding sums
get_or-sums left [] i below = absurd (omega arith)
get_or-sums left (x ∷ xs) zero below = refl
get_or-sums left (x ∷ xs) (suc i) below = let e : suc i + 1 ≡ suc (i + 1) = omega arith in rw e (get_or-sums x xs i (omega arith))

pub get_or-plain : (cells : List ℕ) (p i : ℕ) → i < length cells → get_or (plain cells (p + 1)) i 0 ≡ (get_or (0 ∷ plain cells p) i 0 + get_or (plain cells p) i 0 + get_or (plain cells p) (i + 1) 0) % 2 ^ 64
unfolding plain
get_or-plain cells p i below =
    let n = length-plain cells p in let e : p + 1 ≡ suc p = omega arith in
    ap (λ q. get_or (plain cells q) i 0) e ∙ get_or-sums 0 (plain cells p) i (omega arith)
