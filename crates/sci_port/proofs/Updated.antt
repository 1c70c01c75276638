-- Functions changed at one place, and lists with one more element.
use borrow.Author.Tests.{eq-eqb, ne_eqb}
use Rattle.std.proofs.Common.{◌≡◌, ◌≢◌, ℕ, zero, suc, List, [], ◌∷◌, ◌++◌, length, cond, refl, sym, ap}
use mathlib.Core.Option.{some, some-ne-none}
use lib.ListN.{get_elem?}
use Rattle.sci_core.specs.State.{update}

pub at_longer : {A : Type 0} (l : List A) (a : A) (i : ℕ) (b : A) → get_elem? l i ≡ some b → get_elem? (l ++ a ∷ []) i ≡ some b
at_longer [] a i b e = absurd (some-ne-none b (sym e))
at_longer (x ∷ xs) a zero b e = e
at_longer (x ∷ xs) a (suc i) b e = at_longer xs a i b e

pub at_last : {A : Type 0} (l : List A) (a : A) → get_elem? (l ++ a ∷ []) (length l) ≡ some a
at_last [] a = refl
at_last (x ∷ xs) a = at_last xs a

pub update_here : {A : Type 0} (f : ℕ → A) (i : ℕ) (x : A) → update f i x i ≡ x
update_here f i x = ap (λ b. cond b x (f i)) (eq-eqb i i refl)

pub update_else : {A : Type 0} (f : ℕ → A) (i : ℕ) (x : A) (j : ℕ) → j ≢ i → update f i x j ≡ f j
update_else f i x j ne = ap (λ b. cond b x (f j)) (ne_eqb j i ne)
