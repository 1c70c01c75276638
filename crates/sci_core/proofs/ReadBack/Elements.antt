-- What is an element of a list with one more in front.
use Rattle.std.proofs.Common.{◌≡◌, ◌⊎◌, ℕ, List, [], ◌∷◌, Contains, ⊎_elim, inl, inr, sym, arith}
use Rattle.std.proofs.lemmas.List.Elements.{Contains-push, Contains-push_cases, Contains-append_left, Contains-append_right, Contains-append_cases}

pub contains_none : (i : ℕ) → Contains [] i → ⊥
contains_none i c = omega (arith, c.1)

pub contains_head : (x : ℕ) (xs : List ℕ) → Contains (x ∷ xs) x
contains_head x xs = Contains-append_left (x ∷ []) xs x (Contains-push [] x)

pub contains_tail : (x : ℕ) (xs : List ℕ) (i : ℕ) → Contains xs i → Contains (x ∷ xs) i
contains_tail x xs i c = Contains-append_right (x ∷ []) xs i c

pub contains_cases : (x : ℕ) (xs : List ℕ) (i : ℕ) → Contains (x ∷ xs) i → (i ≡ x) ⊎ Contains xs i
contains_cases x xs i c = ⊎_elim (λ h. ⊎_elim (λ n. absurd (contains_none i n)) (λ e. inl (sym e)) (Contains-push_cases [] x i h)) (λ t. inr t) (Contains-append_cases (x ∷ []) xs i c)
