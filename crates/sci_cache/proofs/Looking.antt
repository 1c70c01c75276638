-- Elements of a list that were looked at, one after another.
use Rattle.std.proofs.Common.{◌≡◌, ◌≢◌, ◌⊎◌, inl, inr, ℕ, ◌+◌, ◌<◌, List, length, get_or, sym, subst, ◌∙◌, arith}
use Rattle.std.proofs.lemmas.Bool.{cases_eq}
use Rattle.std.proofs.lemmas.List.{get_or_default}

module _ {X : Type 0} (P : ℕ → X → Type 0) (xs : List X) (n : ℕ) (x : X) (near : n < length xs) (at : x ≡ get_or xs n x) (here : P n x) (old : (k : ℕ) (d : X) → k < n → P k (get_or xs k d)) where
  by_case : (k : ℕ) (d : X) → k < n + 1 → (k ≡ n) ⊎ (k ≢ n) → P k (get_or xs k d)
  by_case k d below (inl e) = subst (λ (m : ℕ). P m (get_or xs m d)) (sym e) (subst (λ (y : X). P n y) (at ∙ get_or_default xs n x d near) here)
  by_case k d below (inr other) = old k d (omega arith)

  pub looked_at : (k : ℕ) (d : X) → k < n + 1 → P k (get_or xs k d)
  looked_at k d below = by_case k d below (cases_eq k n)
