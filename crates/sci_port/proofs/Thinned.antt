-- Lists that keep to what was shown are still one history.
use Rattle.std.proofs.Common.{◌≡◌, ℕ, zero, suc, ◌+◌, ◌<◌, ◌≤◌, true, false, List, [], ◌∷◌, cond, refl, sym, ap, ◌∙◌, subst, ⊎_elim, arith}
use mathlib.Core.Logic.{dite}
use mathlib.Core.Option.{some, some-injective, some-ne-none}
use native.Mathlib.Decide.{dec_lt}
use lib.ListN.{get_elem?}
use Rattle.sci_core.specs.declared.lines.Line.{Line}
use Rattle.sci_core.specs.declared.receipts.Receipt.{Receipt}
use Rattle.sci_core.specs.declared.receipts.Receipt.TheVariants.{Read, Passed, Wrote}
use Rattle.sci_core.specs.Legal.{stamp_of, is_write, IsShown, IsLegal}
use Rattle.sci_port.specs.KeepsTo.{as_read, KeepsTo}
use Rattle.sci_port.specs.Receipts.{writes_of}
use Rattle.sci_port.proofs.Elements.{clash}

as_write : (r : Receipt) → is_write (as_read r) ≡ is_write r
as_write (Read words stamp) = refl
as_write (Passed words stamp) = refl
as_write (Wrote before words stamp) = refl

as_stamp : (r : Receipt) → stamp_of (as_read r) ≡ stamp_of r
as_stamp (Read words stamp) = refl
as_stamp (Passed words stamp) = refl
as_stamp (Wrote before words stamp) = refl

as_shown : (h : ℕ → List ℕ) (first last : ℕ) (r : Receipt) → IsShown h first last (as_read r) → IsShown h first last r
as_shown h first last (Read words stamp) k = k
as_shown h first last (Passed words stamp) k = k
as_shown h first last (Wrote before words stamp) k = k

no_write : (n : Receipt) (m : ℕ) → is_write n ≡ false → cond (is_write n) 1 0 + m ≡ m
no_write n m e = ap (λ b. cond b 1 0 + m) e ∙ (let z : 0 + m ≡ m = omega arith in z)

-- as many writes
pub keeps_writes : (rs ns : List Receipt) → KeepsTo rs ns → writes_of rs ≡ writes_of ns
keeps_writes [] [] k = refl
keeps_writes [] (n ∷ ns) k = absurd k
keeps_writes (r ∷ rs) [] k = absurd k
keeps_writes (r ∷ rs) (n ∷ ns) k = ⊎_elim
    (λ h. (λ i. cond ((sym (as_write r) ∙ ap is_write h.0) i) 1 0 + keeps_writes rs ns h.1 i))
    (λ h. keeps_writes (r ∷ rs) ns h.2 ∙ sym (no_write n (writes_of ns) h.1)) k

-- where a receipt was shown
finds : (rs ns : List Receipt) (p : ℕ) (r : Receipt) → KeepsTo rs ns → get_elem? rs p ≡ some r → (q : ℕ) × (get_elem? ns q ≡ some (as_read r))
finds [] ns p r k e = absurd (some-ne-none r (sym e))
finds (x ∷ rs) [] p r k e = absurd k
finds (x ∷ rs) (n ∷ ns) zero r k e = ⊎_elim
    (λ h. (0, ap (λ z. some z) (sym h.0 ∙ ap as_read (some-injective x r e))))
    (λ h. let m = finds (x ∷ rs) ns zero r h.2 e in (suc m.0, m.1)) k
finds (x ∷ rs) (n ∷ ns) (suc p) r k e = ⊎_elim
    (λ h. let m = finds rs ns p r h.1 e in (suc m.0, m.1))
    (λ h. let m = finds (x ∷ rs) ns (suc p) r h.2 e in (suc m.0, m.1)) k

-- in the same order
finds_both : (rs ns : List Receipt) (p q : ℕ) (r s : Receipt) → KeepsTo rs ns → p < q → get_elem? rs p ≡ some r → get_elem? rs q ≡ some s → (i j : ℕ) × (i < j) × (get_elem? ns i ≡ some (as_read r)) × (get_elem? ns j ≡ some (as_read s))
finds_both [] ns p q r s k lt e f = absurd (some-ne-none r (sym e))
finds_both (x ∷ rs) [] p q r s k lt e f = absurd k
finds_both (x ∷ rs) (n ∷ ns) p zero r s k lt e f = absurd (omega arith)
finds_both (x ∷ rs) (n ∷ ns) zero (suc q) r s k lt e f = ⊎_elim
    (λ h. let m = finds rs ns q s h.1 f in (0, suc m.0, omega arith, ap (λ z. some z) (sym h.0 ∙ ap as_read (some-injective x r e)), m.1))
    (λ h. let m = finds_both (x ∷ rs) ns zero (suc q) r s h.2 lt e f in let near = m.2 in (suc m.0, suc m.1, omega arith, m.3, m.4)) k
finds_both (x ∷ rs) (n ∷ ns) (suc p) (suc q) r s k lt e f = ⊎_elim
    (λ h. let m = finds_both rs ns p q r s h.1 (omega arith) e f in let near = m.2 in (suc m.0, suc m.1, omega arith, m.3, m.4))
    (λ h. let m = finds_both (x ∷ rs) ns (suc p) (suc q) r s h.2 lt e f in let near = m.2 in (suc m.0, suc m.1, omega arith, m.3, m.4)) k

-- and no write is left out
finds_write : (rs ns : List Receipt) (q : ℕ) (n : Receipt) → KeepsTo rs ns → get_elem? ns q ≡ some n → is_write n ≡ true → (p : ℕ) × (r : Receipt) × (get_elem? rs p ≡ some r) × (as_read r ≡ n)
finds_write [] [] q n k e w = absurd (some-ne-none n (sym e))
finds_write [] (m ∷ ns) q n k e w = absurd k
finds_write (x ∷ rs) [] q n k e w = absurd k
finds_write (x ∷ rs) (m ∷ ns) zero n k e w = ⊎_elim
    (λ h. (0, x, refl, h.0 ∙ some-injective m n e))
    (λ h. absurd (clash (is_write n) w (sym (ap is_write (some-injective m n e)) ∙ h.1))) k
finds_write (x ∷ rs) (m ∷ ns) (suc q) n k e w = ⊎_elim
    (λ h. let f = finds_write rs ns q n h.1 e w in (suc f.0, f.1, f.2, f.3))
    (λ h. finds_write (x ∷ rs) ns q n h.2 e w) k

module _ (o v : Line) (lists shown : ℕ → List Receipt) (g : IsLegal o v shown) (keep : (j : ℕ) → KeepsTo (lists j) (shown j)) where
  in_order : (j p q : ℕ) (r s : Receipt) → p < q → get_elem? (lists j) p ≡ some r → get_elem? (lists j) q ≡ some s → (stamp_of r ≤ stamp_of s) × (is_write s ≡ true → stamp_of r < stamp_of s)
  in_order j p q r s lt e f =
      let m = finds_both (lists j) (shown j) p q r s (keep j) lt e f in
      let k = g.ordered j m.0 m.1 (as_read r) (as_read s) m.2 m.3 m.4 in
      (subst (λ (z : ℕ × ℕ). z.0 ≤ z.1) (λ i. (as_stamp r i, as_stamp s i)) k.0, λ w. subst (λ (z : ℕ × ℕ). z.0 < z.1) (λ i. (as_stamp r i, as_stamp s i)) (k.1 (as_write s ∙ w)))

  -- lists that keep to one history are one history
  pub legal_thinned : IsLegal o v lists
  legal_thinned = record {
    history = g.history;
    rises = g.rises;
    first = g.first;
    last = g.last;
    shown = λ j p r e. let m = finds (lists j) (shown j) p r (keep j) e in as_shown g.history o.stamp v.stamp r (g.shown j m.0 (as_read r) m.1);
    ordered = in_order;
    written = λ k a b.
        let w = g.written k a b in
        let f = finds_write (lists w.0) (shown w.0) w.1 w.2 (keep w.0) w.3 w.4 in
        (w.0, f.0, f.1, f.2, sym (as_write f.1) ∙ (ap is_write f.3 ∙ w.4), sym (as_stamp f.1) ∙ (ap stamp_of f.3 ∙ w.5));
    once = λ i j p q r s e f wr ws is.
        let a = finds (lists i) (shown i) p r (keep i) e in let b = finds (lists j) (shown j) q s (keep j) f in
        let same : i ≡ j = (g.once i j a.0 b.0 (as_read r) (as_read s) a.1 b.1 (as_write r ∙ wr) (as_write s ∙ ws) (as_stamp r ∙ (is ∙ sym (as_stamp s)))).0 in
        let e' : get_elem? (lists j) p ≡ some r = ap (λ z. get_elem? (lists z) p) (sym same) ∙ e in (
          same,
          dite (dec_lt p q)
              (λ lt. let k = (in_order j p q r s lt e' f).1 ws in absurd (omega arith))
              (λ ge. dite (dec_lt q p)
              (λ lt. let k = (in_order j q p s r lt f e').1 wr in absurd (omega arith))
              (λ le. omega arith)),
        );
  }
