-- Elements of lists, by their places.
use Rattle.std.proofs.Common.{◌≡◌, ◌≢◌, ◌⊎◌, inl, inr, ⊎_elim, ℕ, zero, suc, ◌+◌, ◌<◌, ◌≤◌, Bool, true, false, Option, Some, None, List, [], ◌∷◌, ◌++◌, length, get_or, set, refl, sym, ap, subst, ◌∙◌, arith}
use mathlib.Core.Logic.{dite}
use mathlib.Core.Option.{some, some-injective, some-ne-none}
use native.Mathlib.Decide.{ℕ_discrete}
use lib.ListN.{get_elem?}

pub clash : (b : Bool) → b ≡ true → b ≡ false → ⊥
clash b e f = let z : true ≡ false = sym e ∙ f in cc

pub not_none : {A : Type 0} (f : Option A) (v : A) → f ≡ None → f ≡ Some v → ⊥
not_none f v a b = cc

pub same_some : {A : Type 0} (v w : A) → ◌≡◌ {A = Option A} (Some v) (Some w) → v ≡ w
same_some v w h = cc

pub inside : {A : Type 0} (l : List A) (a : A) (i : ℕ) → get_elem? l i ≡ some a → i < length l
inside [] a i e = absurd (some-ne-none a (sym e))
inside (x ∷ xs) a zero e = omega arith
inside (x ∷ xs) a (suc i) e = let h : i < length xs = inside xs a i e in omega arith

pub no_element : {A : Type 0} (l : List A) (k : ℕ) (x : A) → l ≡ [] → get_elem? l k ≡ some x → ⊥
no_element [] k x is e = some-ne-none x (sym e)
no_element (y ∷ l) k x is e = cc

pub at_end : {A : Type 0} (l : List A) (a b : A) (j : ℕ) → get_elem? (l ++ a ∷ []) j ≡ some b → (get_elem? l j ≡ some b) ⊎ ((j ≡ length l) × (a ≡ b))
at_end [] a b zero e = inr (refl, some-injective a b e)
at_end [] a b (suc j) e = absurd (some-ne-none b (sym e))
at_end (x ∷ xs) a b zero e = inl e
at_end (x ∷ xs) a b (suc j) e = ⊎_elim (λ h. inl h) (λ h. let k : j ≡ length xs = h.0 in inr (omega arith, h.1)) (at_end xs a b j e)

-- what is read at a place within the list stands there
pub at_index : {A : Type 0} (l : List A) (i : ℕ) (a : A) → i < length l → a ≡ get_or l i a → get_elem? l i ≡ some a
at_index [] i a h e = absurd (omega arith)
at_index (x ∷ xs) zero a h e = ap some (sym e)
at_index (x ∷ xs) (suc i) a h e = at_index xs i a (omega arith) e

-- behind a write of one place
pub at_set : {A : Type 0} (l : List A) (i j : ℕ) (a b : A) → get_elem? (set l i a) j ≡ some b → ((j ≡ i) × (a ≡ b)) ⊎ ((j ≢ i) × (get_elem? l j ≡ some b))
at_set [] i j a b e = absurd (some-ne-none b (sym e))
at_set (x ∷ xs) zero zero a b e = inl (refl, some-injective a b e)
at_set (x ∷ xs) zero (suc j) a b e = inr ((λ h. omega arith), e)
at_set (x ∷ xs) (suc i) zero a b e = inr ((λ h. omega arith), e)
at_set (x ∷ xs) (suc i) (suc j) a b e = ⊎_elim (λ t. inl (ap suc t.0, t.1)) (λ t. let n = t.0 in inr ((λ h. n (omega arith)), t.1)) (at_set xs i j a b e)

-- one more place was looked at
pub looked_at : {A : Type 0} (P : ℕ → A → Type 0) (xs : List A) (i : ℕ) (x : A) → i < length xs → x ≡ get_or xs i x → P i x → ((k : ℕ) (y : A) → k < i → get_elem? xs k ≡ some y → P k y) → (k : ℕ) (y : A) → k < i + 1 → get_elem? xs k ≡ some y → P k y
looked_at {A} P xs i x near is here old k y below at = dite (ℕ_discrete k i)
    (λ e. subst (λ (z : ℕ × A). P z.0 z.1) (λ j. (sym e j, some-injective x y (sym (at_index xs i x near is) ∙ (ap (get_elem? xs) (sym e) ∙ at)) j)) here)
    (λ ne. old k y (omega arith) at)

-- and at last all were
pub looked_all : {A : Type 0} (P : ℕ → A → Type 0) (xs : List A) (i : ℕ) → length xs ≤ i → ((k : ℕ) (y : A) → k < i → get_elem? xs k ≡ some y → P k y) → (k : ℕ) (y : A) → get_elem? xs k ≡ some y → P k y
looked_all P xs i far all k y at = let near = inside xs y k at in all k y (omega arith) at

-- P holds of each element, by its place
abbrev pub Each : {A : Type 0} → (A → Type 0) → List A → Type 0
Each {A} P xs = (k : ℕ) (x : A) → get_elem? xs k ≡ some x → P x

pub each_more : {A : Type 0} (P : A → Type 0) (xs : List A) (x : A) → Each P xs → P x → Each P (xs ++ x ∷ [])
each_more P xs x all here k y e = ⊎_elim (λ h. all k y h) (λ h. subst P h.1 here) (at_end xs x y k e)

pub each_first : {A : Type 0} (P : A → Type 0) (xs : List A) (x : A) → Each P xs → P x → Each P (x ∷ xs)
each_first P xs x all here zero y e = subst P (some-injective x y e) here
each_first P xs x all here (suc k) y e = all k y e

-- as std says it, of the element at each index
pub each_all : {A : Type 0} (P : A → Type 0) (xs : List A) → Each P xs → (k : ℕ) (d : A) → k < length xs → P (get_or xs k d)
each_all P [] all k d near = absurd (omega arith)
each_all P (x ∷ xs) all zero d near = all zero x refl
each_all P (x ∷ xs) all (suc k) d near = each_all P xs (λ j y e. all (suc j) y e) k d (omega arith)

pub all_each : {A : Type 0} (P : A → Type 0) (xs : List A) → ((k : ℕ) (d : A) → k < length xs → P (get_or xs k d)) → Each P xs
all_each P [] all k y e = absurd (some-ne-none y (sym e))
all_each P (x ∷ xs) all zero y e = subst P (some-injective x y e) (all zero x (omega arith))
all_each P (x ∷ xs) all (suc k) y e = all_each P xs (λ j d near. all (suc j) d (omega arith)) k y e
