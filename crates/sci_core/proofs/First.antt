-- The lowest number of which a test is true.
use Rattle.std.proofs.Common.{◌≡◌, ℕ, ◌<◌, Bool, true, false, cond, Option, Some, None, zero, suc, refl, ap, subst, ⊎_elim, ◌∙◌, arith}
use Rattle.std.proofs.lemmas.Bool.{cases_lt}
use Rattle.std.specs.Option.{option_or}
use Rattle.sci_core.specs.Waiting.{first}

not_both : (o : Option ℕ) (y : ℕ) → o ≡ None → o ≡ Some y → ⊥
not_both o y a b = cc

same_some : (x y : ℕ) → Some x ≡ Some y → x ≡ y
same_some x y e = grind (arith, e)

pub none_more : (f : ℕ → Bool) (k : ℕ) → first k f ≡ None → f k ≡ false → first (suc k) f ≡ None
none_more f k a b = ap (λ (o : Option ℕ). option_or o (cond (f k) (Some k) None)) a ∙ ap (λ (c : Bool). cond c (Some k) None) b

pub first_at : (f : ℕ → Bool) (k n : ℕ) → first k f ≡ None → f k ≡ true → k < n → first n f ≡ Some k
first_at f k zero a b l = absurd (omega (arith, l))
first_at f k (suc n) a b l =
    ⊎_elim
    (λ m. ap (λ (o : Option ℕ). option_or o (cond (f n) (Some n) None)) (first_at f k n a b m))
    (λ m.
    let e : k ≡ n = omega (arith, l, m) in
    subst (λ (i : ℕ). first (suc i) f ≡ Some k) e
    (ap (λ (o : Option ℕ). option_or o (cond (f k) (Some k) None)) a ∙ ap (λ (c : Bool). cond c (Some k) None) b))
    (cases_lt k n)

holds_at : (f : ℕ → Bool) (n y : ℕ) (b : Bool) → f n ≡ b → cond b (Some n) None ≡ Some y → f y ≡ true
holds_at f n y true e h = subst (λ (i : ℕ). f i ≡ true) (same_some n y h) e
holds_at f n y false e h = absurd (cc)

holds_in : (f : ℕ → Bool) (n y : ℕ) (o : Option ℕ) → (o ≡ Some y → f y ≡ true) → option_or o (cond (f n) (Some n) None) ≡ Some y → f y ≡ true
holds_in f n y (Some z) r h = r h
holds_in f n y None r h = holds_at f n y (f n) refl h

pub first_holds : (f : ℕ → Bool) (n y : ℕ) → first n f ≡ Some y → f y ≡ true
first_holds f zero y h = absurd (cc)
first_holds f (suc n) y h = holds_in f n y (first n f) (first_holds f n y) h

or_some : (o p : Option ℕ) (y : ℕ) → o ≡ Some y → (z : ℕ) × (option_or o p ≡ Some z)
or_some (Some x) p y e = (x, refl)
or_some None p y e = absurd (cc)

or_else : (o : Option ℕ) (n : ℕ) → (z : ℕ) × (option_or o (Some n) ≡ Some z)
or_else (Some x) n = (x, refl)
or_else None n = (n, refl)

-- there is one, where the test is true of a number below n
pub first_some : (f : ℕ → Bool) (n k : ℕ) → k < n → f k ≡ true → (y : ℕ) × (first n f ≡ Some y)
first_some f zero k l h = absurd (omega (arith, l))
first_some f (suc n) k l h =
    ⊎_elim
    (λ m. let r = first_some f n k m h in or_some (first n f) (cond (f n) (Some n) None) r.0 r.1)
    (λ m.
    let e : k ≡ n = omega (arith, l, m) in
    let last : f n ≡ true = subst (λ (i : ℕ). f i ≡ true) e h in
    let r = or_else (first n f) n in
    (r.0, ap (λ (c : Bool). option_or (first n f) (cond c (Some n) None)) last ∙ r.1))
    (cases_lt k n)

-- there is none, where it isn't true of any number below n, and the other way round
pub first_none : (f : ℕ → Bool) (n k : ℕ) → first n f ≡ None → k < n → f k ≡ true → ⊥
first_none f n k e l h = let r = first_some f n k l h in not_both (first n f) r.0 e r.1
