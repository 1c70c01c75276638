-- One more receipt of a node: all of them are still one history.
use Rattle.std.proofs.Common.{◌≡◌, ◌⊎◌, ℕ, ◌+◌, ◌<◌, ◌≤◌, true, List, [], ◌∷◌, ◌++◌, length, refl, sym, ap, ◌∙◌, subst, inl, inr, ⊎_elim, arith}
use mathlib.Core.Logic.{dite}
use mathlib.Core.Option.{some, some-ne-none}
use native.Mathlib.Decide.{ℕ_discrete, dec_le}
use lib.ListN.{get_elem?}
use Rattle.sci_core.specs.declared.lines.Line.{Line}
use Rattle.sci_core.specs.declared.receipts.Receipt.{Receipt}
use Rattle.sci_core.specs.declared.receipts.Receipt.TheVariants.{Read, Passed, Wrote}
use Rattle.sci_core.specs.State.{update}
use Rattle.sci_core.specs.Legal.{stamp_of, is_write, IsShown, IsLegal}
use Rattle.sci_port.proofs.Elements.{inside, at_end, clash}
use Rattle.sci_port.proofs.Updated.{at_longer, at_last, update_here, update_else}

module _ (lists : ℕ → List Receipt) (x : ℕ) (r : Receipt) where
  abbrev more : ℕ → List Receipt
  more = update lists x (lists x ++ r ∷ [])

  more_here : more x ≡ lists x ++ r ∷ []
  more_here = update_here lists x (lists x ++ r ∷ [])

  -- what was there is there
  still_there : (j p : ℕ) (s : Receipt) → get_elem? (lists j) p ≡ some s → get_elem? (more j) p ≡ some s
  still_there j p s e = dite (ℕ_discrete j x)
      (λ is. ap (λ (l : List Receipt). get_elem? l p) (ap more is ∙ more_here) ∙ at_longer (lists x) r p s (ap (λ (z : ℕ). get_elem? (lists z) p) (sym is) ∙ e))
      (λ ne. ap (λ (l : List Receipt). get_elem? l p) (update_else lists x (lists x ++ r ∷ []) j ne) ∙ e)

  new_there : get_elem? (more x) (length (lists x)) ≡ some r
  new_there = ap (λ (l : List Receipt). get_elem? l (length (lists x))) more_here ∙ at_last (lists x) r

  abbrev IsNew : ℕ → ℕ → Receipt → Type 0
  IsNew j p s = (j ≡ x) × (p ≡ length (lists x)) × (r ≡ s)

  -- what is there was there, or is new
  was_or_new : (j p : ℕ) (s : Receipt) → get_elem? (more j) p ≡ some s → (get_elem? (lists j) p ≡ some s) ⊎ IsNew j p s
  was_or_new j p s e = dite (ℕ_discrete j x)
      (λ is. ⊎_elim
      (λ h. inl (ap (λ (z : ℕ). get_elem? (lists z) p) is ∙ h))
      (λ h. inr (is, h.0, h.1))
      (at_end (lists x) r s p (sym (ap (λ (l : List Receipt). get_elem? l p) (ap more is ∙ more_here)) ∙ e)))
      (λ ne. inl (sym (ap (λ (l : List Receipt). get_elem? l p) (update_else lists x (lists x ++ r ∷ []) j ne)) ∙ e))

shown_below : (h : ℕ → List ℕ) (first last : ℕ) (s : Receipt) → IsShown h first last s → stamp_of s ≤ last
shown_below h first last (Read words stamp) k = k.1
shown_below h first last (Passed words stamp) k = k.1
shown_below h first last (Wrote before words stamp) k = let a = k.1 in let b = k.3 in omega arith

module _ (o v w : Line) (lists : ℕ → List Receipt) (x : ℕ) (r : Receipt) (h : ℕ → List ℕ) (g : IsLegal o v lists) (up : v.stamp ≤ w.stamp) (same : (k : ℕ) → k ≤ v.stamp → h k ≡ g.history k) (last : h w.stamp ≡ w.words)
    (new : IsShown h o.stamp w.stamp r) (above : v.stamp ≤ stamp_of r) (over : is_write r ≡ true → v.stamp < stamp_of r)
    (next : (k : ℕ) → v.stamp ≤ k → k < w.stamp → (is_write r ≡ true) × (stamp_of r ≡ k + 1)) where
  shown_still : (s : Receipt) → IsShown g.history o.stamp v.stamp s → IsShown h o.stamp w.stamp s
  shown_still (Read words stamp) k = let a = k.1 in (k.0, omega arith, same stamp k.1 ∙ k.2)
  shown_still (Passed words stamp) k = let a = k.1 in (k.0, omega arith, same stamp k.1 ∙ k.2)
  shown_still (Wrote before words stamp) k = let a = k.3 in (k.0, k.1, k.2, omega arith, same k.0 (omega arith) ∙ k.4, same (k.0 + 1) (omega arith) ∙ k.5)

  below : (j p : ℕ) (s : Receipt) → get_elem? (lists j) p ≡ some s → stamp_of s ≤ v.stamp
  below j p s e = shown_below g.history o.stamp v.stamp s (g.shown j p s e)

  legal_more : IsLegal o w (more lists x r)
  legal_more = record {
    history = h;
    rises = let a = g.rises in omega arith;
    first = same o.stamp g.rises ∙ g.first;
    last = last;
    shown = λ j p s e. ⊎_elim (λ k. shown_still s (g.shown j p s k)) (λ (k : IsNew lists x r j p s). subst (IsShown h o.stamp w.stamp) k.2 new) (was_or_new lists x r j p s e);
    ordered = λ j p q s u lt e f. ⊎_elim
        (λ k. ⊎_elim
        (λ m. g.ordered j p q s u lt k m)
        (λ (m : IsNew lists x r j q u). subst (λ (z : Receipt). (stamp_of s ≤ stamp_of z) × (is_write z ≡ true → stamp_of s < stamp_of z)) m.2 (let a = below j p s k in (omega arith, λ wr. let b = over wr in omega arith)))
        (was_or_new lists x r j q u f))
        (λ (k : IsNew lists x r j p s). ⊎_elim
        (λ m. let a : q < length (lists j) = inside (lists j) u q m in let b : length (lists j) ≡ length (lists x) = ap (λ (z : ℕ). length (lists z)) k.0 in let c = k.1 in absurd (omega arith))
        (λ (m : IsNew lists x r j q u). let b = k.1 in let c = m.1 in absurd (omega arith))
        (was_or_new lists x r j q u f))
        (was_or_new lists x r j p s e);
    written = λ k a b. dite (dec_le v.stamp k)
        (λ far. let n = next k far b in (x, length (lists x), r, new_there lists x r, n.0, n.1))
        (λ near. let old = g.written k a (omega arith) in (old.0, old.1, old.2, still_there lists x r old.0 old.1 old.2 old.3, old.4, old.5));
    once = λ i j p q s u e f ws wu same_stamp. ⊎_elim
        (λ k. ⊎_elim
        (λ m. g.once i j p q s u k m ws wu same_stamp)
        (λ (m : IsNew lists x r j q u). let a = below i p s k in let b = over (ap is_write m.2 ∙ wu) in let c : stamp_of r ≡ stamp_of u = ap stamp_of m.2 in absurd (omega arith))
        (was_or_new lists x r j q u f))
        (λ (k : IsNew lists x r i p s). ⊎_elim
        (λ m. let a = below j q u m in let b = over (ap is_write k.2 ∙ ws) in let c : stamp_of r ≡ stamp_of s = ap stamp_of k.2 in absurd (omega arith))
        (λ (m : IsNew lists x r j q u). (k.0 ∙ sym m.0, k.1 ∙ sym m.1))
        (was_or_new lists x r j q u f))
        (was_or_new lists x r i p s e);
  }

-- no receipt is one history, that of a line that nobody wrote
pub legal_none : (o : Line) → IsLegal o o (λ j. [])
legal_none o = record {
  history = λ k. o.words;
  rises = omega arith;
  first = refl;
  last = refl;
  shown = λ j p r e. absurd (some-ne-none r (sym e));
  ordered = λ j p q r s lt e f. absurd (some-ne-none r (sym e));
  written = λ k a b. absurd (omega arith);
  once = λ i j p q r s e f wr ws is. absurd (some-ne-none r (sym e));
}

-- the value is read
pub legal_read : (o v : Line) (lists : ℕ → List Receipt) (x : ℕ) → IsLegal o v lists → IsLegal o v (update lists x (lists x ++ Read v.words v.stamp ∷ []))
legal_read o v lists x g = legal_more o v v lists x (Read v.words v.stamp) g.history g (omega arith) (λ k a. refl) g.last (g.rises, omega arith, g.last) (omega arith) (λ wr. absurd (clash (is_write (Read v.words v.stamp)) wr refl)) (λ k a b. absurd (omega arith))

-- the value is written over
pub legal_write : (o v : Line) (words : List ℕ) (lists : ℕ → List Receipt) (x : ℕ) → IsLegal o v lists → IsLegal o (record { words = words; stamp = v.stamp + 1 }) (update lists x (lists x ++ Wrote v.words words (v.stamp + 1) ∷ []))
legal_write o v words lists x g =
    let h : ℕ → List ℕ = update g.history (v.stamp + 1) words in
    let before : h v.stamp ≡ v.words = update_else g.history (v.stamp + 1) words v.stamp (λ e. absurd (omega arith)) ∙ g.last in
    let now : h (v.stamp + 1) ≡ words = update_here g.history (v.stamp + 1) words in
    legal_more o v (record { words = words; stamp = v.stamp + 1 }) lists x (Wrote v.words words (v.stamp + 1)) h g (omega arith) (λ k a. update_else g.history (v.stamp + 1) words k (λ e. absurd (omega arith))) now
    (v.stamp, refl, g.rises, omega arith, before, now) (omega arith) (λ wr. omega arith) (λ k a b. (refl, omega arith))
