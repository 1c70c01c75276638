-- Nodes that wait one for the next are different ones.
use Rattle.std.proofs.Common.{◌≡◌, ◌<◌, ◌≤◌, ℕ, true, false, List, [], ◌∷◌, length, eqb, subst, ⊎_elim, arith}
use Rattle.std.proofs.lemmas.Bool.{cases_eq}
use Rattle.std.proofs.lemmas.Bool.Decides.{nat_tests}
use Rattle.std.proofs.lemmas.Map.Steps.{length-le_from_distinct_below}
use Rattle.std.specs.List.{AllByRecursion, IsDistinct, list_any}
use Rattle.sci_core.specs.State.{State}
use Rattle.sci_core.specs.Waiting.{Waits}
use Rattle.sci_ops.specs.Rest.{EachWaits, HasNoCircle, WaitsForFirst}

mapped : (P Q : ℕ → Type 0) → ((x : ℕ) → P x → Q x) → (xs : List ℕ) → AllByRecursion P xs → AllByRecursion Q xs
mapped P Q f [] h = h
mapped P Q f (x ∷ xs) h = (f x h.0, mapped P Q f xs h.1)

module _ (n : ℕ) (s : State) (h : HasNoCircle n s) where
  -- it waits, and stands lower
  abbrev Lower : ℕ → ℕ → Type 0
  Lower i z = (w : ℕ) → Waits n s z w → h.0 z < h.0 i

  lower_yet : (i y x z : ℕ) → Waits n s i y → Waits n s y x → Lower y z → Lower i z
  lower_yet i y x z a b f = λ w k. let one = f w k in let two = h.1 i y x a b in omega (arith, one, two)

  all_lower : (i y : ℕ) (more : List ℕ) → Waits n s i y → WaitsForFirst n s y more → EachWaits n s more → AllByRecursion (Lower i) (y ∷ more)
  all_lower i y [] a b c = (λ w k. h.1 i y w a k, tt)
  all_lower i y (x ∷ more) a b c = (λ w k. h.1 i y w a k, mapped (Lower y) (Lower i) (λ z f. lower_yet i y x z a b f) (x ∷ more) (all_lower y x more b c.1 c.2))

  -- a node that waits stands no lower than itself
  other : (i y : ℕ) → Waits n s i y → (z : ℕ) → Lower i z → eqb i z ≡ false
  other i y a z f = ⊎_elim (λ q. let less : h.0 z < h.0 z = subst (λ (j : ℕ). h.0 z < h.0 j) q (f y (subst (λ (j : ℕ). Waits n s j y) q a)) in absurd (omega (arith, less))) (λ d. grind (arith, nat_tests, d)) (cases_eq i z)

  apart : (nodes : List ℕ) → EachWaits n s nodes → IsDistinct eqb nodes
  unfolding IsDistinct
  apart [] c = tt
  apart (i ∷ []) c = (tt, tt)
  apart (i ∷ (y ∷ more)) c = (mapped (Lower i) (λ z. eqb i z ≡ false) (other i y c.1) (y ∷ more) (all_lower i y more c.1 c.2.1 c.2.2), apart (y ∷ more) c.2)

  inside : (nodes : List ℕ) → EachWaits n s nodes → (q : ℕ) → list_any (eqb q) nodes ≡ true → q < n
  inside [] c q e = absurd (cc)
  inside (i ∷ more) c q e = ⊎_elim (λ k. omega (arith, k, c.0)) (λ d. inside more c.2 q (grind (arith, nat_tests, d, e))) (cases_eq q i)

  pub at_most : (nodes : List ℕ) → EachWaits n s nodes → length nodes ≤ n
  at_most nodes c = length-le_from_distinct_below nodes n (apart nodes c) (inside nodes c)
