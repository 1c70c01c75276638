-- Seats of lines, in piles and in a hand.
use Rattle.std.proofs.Common.{◌≡◌, ◌≢◌, ◌⊎◌, ⊎_elim, ℕ, zero, suc, ◌<◌, List, [], ◌∷◌, ◌++◌, length, get_or, set, take, refl, sym, ap, subst, ◌∙◌, arith}
use mathlib.Core.Option.{some, some-injective, some-ne-none}
use lib.ListN.{get_elem?}
use Rattle.atomic_table.proofs.Lists.{at_index, at_longer, at_set, at_last}
use Rattle.sci_coarse.proofs.Listed.{inside, at_end}
use Rattle.sci_script.specs.Dealt.{AreDealt, ArePiled, AreSeats, AreShared}

-- a line more
pub shared_more : {L : Type 0} (is : L → ℕ → ℕ → Type 0) (nodes n : ℕ) (lines : List L) (l : L) → length lines ≡ n → AreShared is nodes lines → is l nodes n → AreShared is nodes (lines ++ l ∷ [])
shared_more {L} is nodes n lines l count all here k x e = ⊎_elim (λ h. all k x h) (λ h. subst (λ (z : ℕ × L). is z.1 nodes z.0) (λ i. (sym (h.0 ∙ count) i, h.1 i)) here) (at_end lines l x k e)

module _ {L S : Type 0} (of : L → S → Type 0) where
  -- a line more, and its pile
  pub piled_more : {P : Type 0} (items : P → List S) (n : ℕ) (lines : List L) (piles : List P) (l : L) (p : P) → length lines ≡ n → length piles ≡ n → ArePiled of items lines piles → AreSeats of l (items p) → ArePiled of items (lines ++ l ∷ []) (piles ++ p ∷ [])
  piled_more {P} items n lines piles l p count even all here k x q ex eq =
      ⊎_elim
      (λ (h : get_elem? lines k ≡ some x). ⊎_elim (λ g. all k x q h g) (λ g. let low : k < length lines = inside lines x k h in let e : k ≡ length piles = g.0 in absurd (omega arith)) (at_end piles p q k eq))
      (λ h. ⊎_elim (λ (g : get_elem? piles k ≡ some q). let low : k < length piles = inside piles q k g in let e : k ≡ length lines = h.0 in absurd (omega arith))
      (λ g. subst (λ (z : L × P). AreSeats of z.0 (items z.1)) (λ i. (h.1 i, g.1 i)) here) (at_end piles p q k eq))
      (at_end lines l x k ex)

  -- the last seat of a pile is taken
  pub piled_less : {P : Type 0} (items : P → List S) (lines : List L) (piles : List P) (k : ℕ) (p q : P) (s : List S) → k < length piles → p ≡ get_or piles k p → items p ≡ items q ++ s → ArePiled of items lines piles → ArePiled of items lines (set piles k q)
  piled_less items lines piles k p q s near at is all j l r el er = ⊎_elim
      (λ h. λ i t e. all k l p (subst (λ (n : ℕ). get_elem? lines n ≡ some l) h.0 el) (at_index piles k p near at) i t
      (subst (λ (xs : List S). get_elem? xs i ≡ some t) (sym is) (at_longer (items q) s i t (subst (λ z. get_elem? (items z) i ≡ some t) (sym h.1) e))))
      (λ h. all j l r el h.1) (at_set piles k j q r er)

  -- it is of the pile's line
  pub last_of : {P : Type 0} (items : P → List S) (lines : List L) (piles : List P) (k : ℕ) (l : L) (p : P) (seats : List S) (s : S) → k < length piles → p ≡ get_or piles k p → items p ≡ seats ++ s ∷ [] → ArePiled of items lines piles → get_elem? lines k ≡ some l → of l s
  last_of items lines piles k l p seats s near at is all el = all k l p el (at_index piles k p near at) (length seats) s (subst (λ (xs : List S). get_elem? xs (length seats) ≡ some s) (sym is) (at_last seats s (length seats) refl))

  -- a seat more in the hand
  pub dealt_more : (lines : List L) (hand : List S) (s : S) (n : ℕ) → length hand ≡ n → AreDealt of lines hand → ((l : L) → get_elem? lines n ≡ some l → of l s) → AreDealt of lines (hand ++ s ∷ [])
  dealt_more lines hand s n count all here k l t el et = ⊎_elim (λ h. all k l t el h)
      (λ h. subst (of l) h.1 (here l (subst (λ (j : ℕ). get_elem? lines j ≡ some l) (h.0 ∙ count) el))) (at_end hand s t k et)
