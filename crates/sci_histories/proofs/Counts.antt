-- A list too short for the stamps that it is to have.
use Rattle.std.proofs.Common.{◌≡◌, ℕ, zero, suc, ◌+◌, ◌-◌, ◌<◌, ◌≤◌, List, [], ◌∷◌, ◌++◌, length, get_or, refl, sym, ap, subst, ◌∙◌, arith}
use mathlib.Core.Option.{some, some-injective, some-ne-none}
use lib.ListN.{get_elem?}
use Rattle.sci_core.specs.declared.receipts.Receipt.{Receipt}
use Rattle.sci_core.specs.Legal.{stamp_of}
use Rattle.sci_histories.specs.Histories.{LineReceipts}
use Rattle.sci_histories.specs.Rules.{KeepsWritten}
use Rattle.std.proofs.Common.{length-append}
use Rattle.std.proofs.lemmas.List.{length-map, take_all}
use Rattle.std.proofs.Common.{map, take}
use Rattle.sci_histories.specs.Counts.{count_of}

-- the list without one place
abbrev without : List ℕ → ℕ → List ℕ
without [] p = []
without (x ∷ xs) zero = xs
without (x ∷ xs) (suc p) = x ∷ without xs p

without_length : (xs : List ℕ) (p x : ℕ) → get_elem? xs p ≡ some x → length xs ≡ suc (length (without xs p))
without_length [] p x e = absurd (some-ne-none x (sym e))
without_length (y ∷ xs) zero x e = refl
without_length (y ∷ xs) (suc p) x e = ap suc (without_length xs p x e)

abbrev pub Has : List ℕ → ℕ → Type 0
Has xs x = (p : ℕ) × (get_elem? xs p ≡ some x)

-- what isn't taken away is still there
without_has : (xs : List ℕ) (p q x y : ℕ) → get_elem? xs p ≡ some x → get_elem? xs q ≡ some y → (x ≡ y → ⊥) → Has (without xs p) y
without_has [] p q x y e f ne = absurd (some-ne-none x (sym e))
without_has (z ∷ xs) zero zero x y e f ne = absurd (ne (some-injective x y (sym e ∙ f)))
without_has (z ∷ xs) zero (suc q) x y e f ne = (q, f)
without_has (z ∷ xs) (suc p) zero x y e f ne = (0, f)
without_has (z ∷ xs) (suc p) (suc q) x y e f ne = let h = without_has xs p q x y e f ne in (suc h.0, h.1)

-- a list with n numbers, from first + 1 on, has that length at least
pub has_length : (n : ℕ) (first : ℕ) (xs : List ℕ) → ((k : ℕ) → k < n → Has xs (first + 1 + k)) → n ≤ length xs
has_length zero first xs has = omega arith
has_length (suc n) first xs has =
    let top = has n (omega arith) in
    let long = without_length xs top.0 (first + 1 + n) top.1 in
    let rest = has_length n first (without xs top.0) (λ k lt. let h = has k (omega arith) in without_has xs top.0 h.0 (first + 1 + n) (first + 1 + k) top.1 h.1 (λ e. omega (arith, e, lt))) in
    omega arith

has_left : (xs ys : List ℕ) (x : ℕ) → Has xs x → Has (xs ++ ys) x
has_left [] ys x h = absurd (some-ne-none x (sym h.1))
has_left (z ∷ xs) ys x (zero, e) = (0, e)
has_left (z ∷ xs) ys x (suc p, e) = let h = has_left xs ys x (p, e) in (suc h.0, h.1)

has_right : (xs ys : List ℕ) (x : ℕ) → Has ys x → Has (xs ++ ys) x
has_right [] ys x h = h
has_right (z ∷ xs) ys x h = let k = has_right xs ys x h in (suc k.0, k.1)

abbrev stamps : List (List Receipt) → List ℕ
stamps [] = []
stamps (l ∷ ls) = map stamp_of l ++ stamps ls

stamps_length : (ls : List (List Receipt)) → length (stamps ls) ≡ count_of ls
stamps_length [] = refl
stamps_length (l ∷ ls) =
    let a = length-append (map stamp_of l) (stamps ls) in
    let b = length-map l stamp_of in
    let d = stamps_length ls in
    omega (arith, a, b, d)

has_stamp : (rs : List Receipt) (p : ℕ) (r : Receipt) → get_elem? rs p ≡ some r → Has (map stamp_of rs) (stamp_of r)
has_stamp [] p r e = absurd (some-ne-none r (sym e))
has_stamp (s ∷ rs) zero r e = (0, ap some (ap stamp_of (some-injective s r e)))
has_stamp (s ∷ rs) (suc p) r e = let h = has_stamp rs p r e in (suc h.0, h.1)

in_stamps : (ls : List (List Receipt)) (j p : ℕ) (r : Receipt) → get_elem? (get_or ls j []) p ≡ some r → Has (stamps ls) (stamp_of r)
in_stamps [] j p r e = absurd (some-ne-none r (sym e))
in_stamps (l ∷ ls) zero p r e = has_left (map stamp_of l) (stamps ls) (stamp_of r) (has_stamp l p r e)
in_stamps (l ∷ ls) (suc j) p r e = has_right (map stamp_of l) (stamps ls) (stamp_of r) (in_stamps ls j p r e)

-- where each stamp is that of a write, there are receipts enough
pub written_count : (h : LineReceipts) → KeepsWritten h → h.closing.stamp - h.opening.stamp ≤ count_of h.lists
written_count h keeps =
    let has = has_length (h.closing.stamp - h.opening.stamp) h.opening.stamp (stamps h.lists)
    (λ k lt.
    let w = keeps (h.opening.stamp + k) (omega arith) (omega arith) in
    let s = w.5 in
    let same : stamp_of w.2 ≡ h.opening.stamp + 1 + k = omega arith in
    subst (Has (stamps h.lists)) same (in_stamps h.lists w.0 w.1 w.2 w.3)) in
    let long = stamps_length h.lists in
    omega arith

pub count_more : (ls : List (List Receipt)) (i : ℕ) (d : List Receipt) → i < length ls → count_of (take (i + 1) ls) ≡ count_of (take i ls) + length (get_or ls i d)
count_more [] i d lt = absurd (omega arith)
count_more (l ∷ ls) zero d lt = omega arith
count_more (l ∷ ls) (suc i) d lt =
    let h = count_more ls i d (omega arith) in
    let e : suc i + 1 ≡ suc (i + 1) = omega arith in
    let one : count_of (take (suc i + 1) (l ∷ ls)) ≡ length l + count_of (take (i + 1) ls) = ap (λ (n : ℕ). count_of (take n (l ∷ ls))) e in
    let two : length l + count_of (take (i + 1) ls) ≡ length l + count_of (take i ls) + length (get_or ls i d) = omega (arith, h) in
    one ∙ two

pub count_all : (ls : List (List Receipt)) (i : ℕ) → length ls ≤ i → count_of (take i ls) ≡ count_of ls
count_all ls i far = ap count_of (take_all i ls far)
