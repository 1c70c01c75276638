-- Where every write makes the same of the words before it, the words at the end are that, as often as there are writes.
use Rattle.std.proofs.Common.{◌≡◌, ℕ, zero, suc, ◌+◌, ◌≤◌, true, false, List, refl, sym, ap, ◌∙◌, subst, arith}
use Rattle.sci_core.specs.declared.lines.Line.{Line}
use Rattle.sci_core.specs.declared.receipts.Receipt.{Receipt}
use Rattle.sci_core.specs.declared.receipts.Receipt.TheVariants.{Read, Passed, Wrote}
use Rattle.sci_core.specs.Legal.{stamp_of, is_write, IsShown, IsLegal}
use Rattle.sci_port.proofs.Elements.{clash}
use Rattle.sci_port.specs.Receipts.{sum_below, writes_of, IsWhole, WritesBy, AllWriteBy, times}

-- one write
wrote : (f : List ℕ → List ℕ) (h : ℕ → List ℕ) (first last k : ℕ) (r : Receipt) → is_write r ≡ true → stamp_of r ≡ k + 1 → WritesBy f r → IsShown h first last r → h (k + 1) ≡ f (h k)
wrote f h first last k (Read words stamp) w at by shown = absurd (clash false w refl)
wrote f h first last k (Passed words stamp) w at by shown = absurd (clash false w refl)
wrote f h first last k (Wrote before words stamp) w at by shown =
    let below : shown.0 ≡ k = (let a = shown.1 in omega arith) in
    subst (λ (z : ℕ). h (z + 1) ≡ f (h z)) below (shown.5 ∙ (by ∙ ap f (sym shown.4)))

module _ (o v : Line) (lists : ℕ → List Receipt) (f : List ℕ → List ℕ) (g : IsLegal o v lists) (all : AllWriteBy f lists) where
  so_far : (k : ℕ) → o.stamp + k ≤ v.stamp → g.history (o.stamp + k) ≡ times f k o.words
  so_far zero near = ap g.history (let z : o.stamp + 0 ≡ o.stamp = omega arith in z) ∙ g.first
  so_far (suc k) near =
      let w = g.written (o.stamp + k) (omega arith) (omega arith) in
      let one = wrote f g.history o.stamp v.stamp (o.stamp + k) w.2 w.4 w.5 (all w.0 w.1 w.2 w.3) (g.shown w.0 w.1 w.2 w.3) in
      ap g.history (let z : o.stamp + suc k ≡ o.stamp + k + 1 = omega arith in z) ∙ (one ∙ ap f (so_far k (omega arith)))

-- the words at the end
pub all_writes : (n : ℕ) (o v : Line) (lists : ℕ → List Receipt) (f : List ℕ → List ℕ) → IsWhole n o v lists → AllWriteBy f lists → v.words ≡ times f (sum_below n (λ j. writes_of (lists j))) o.words
all_writes n o v lists f w all =
    let c = w.count in
    sym w.legal.last ∙ (ap w.legal.history w.count ∙ so_far o v lists f w.legal all (sum_below n (λ j. writes_of (lists j))) (omega arith))
