-- A list whose neighbours are in order is in order.
use Rattle.std.proofs.Common.{◌≡◌, inl, inr, ℕ, zero, suc, ◌+◌, ◌-◌, ◌<◌, ◌≤◌, List, [], length, get_or, sym, ap, subst, ◌∙◌, arith}
use Rattle.std.proofs.lemmas.Bool.{cases_lt}
use mathlib.Core.Option.{some, some-injective}
use lib.ListN.{get_elem?}
use Rattle.sci_core.specs.declared.receipts.Receipt.{Receipt}
use Rattle.sci_port.proofs.Elements.{inside}
use Rattle.sci_histories.specs.Each.{Each}
use Rattle.sci_histories.specs.Histories.{LineReceipts}
use Rattle.sci_histories.specs.Rules.{IsBehind, IsOrdered, KeepsOrdered}
use Rattle.sci_histories.proofs.Places.{element, elem_or, get_elem, node_below}

here_at : (rs : List Receipt) (i : ℕ) (d r : Receipt) → i < length rs → r ≡ get_or rs i d → get_elem? rs i ≡ some r
here_at rs i d r lt is = elem_or rs i d lt ∙ ap some (sym is)

-- each receipt before this place stands rightly behind the one before it
abbrev pub AreBehind : List Receipt → ℕ → Type 0
AreBehind rs n = (p : ℕ) (r s : Receipt) → p + 1 < n → get_elem? rs p ≡ some r → get_elem? rs (p + 1) ≡ some s → IsBehind r s

pub behind_more : (rs : List Receipt) (i : ℕ) (d r s : Receipt) → 1 ≤ i → i < length rs → r ≡ get_or rs (i - 1) d → s ≡ get_or rs i d → IsBehind r s → AreBehind rs i → AreBehind rs (i + 1)
behind_more rs i d r s from lt at too here old p a b near e f = elim (cases_lt (p + 1) i) [
  | inl l ↦ old p a b l e f
  | inr g ↦
      let is : i - 1 ≡ p = omega arith in
      let next : i ≡ p + 1 = omega arith in
      let x : r ≡ a = some-injective r a (sym (here_at rs (i - 1) d r (omega arith) at) ∙ (ap (get_elem? rs) is ∙ e)) in
      let y : s ≡ b = some-injective s b (sym (here_at rs i d s lt too) ∙ (ap (get_elem? rs) next ∙ f)) in
      subst (λ (z : Receipt). IsBehind a z) y (subst (λ (z : Receipt). IsBehind z s) x here)
]

pub not_behind : (rs : List Receipt) (i : ℕ) (d r s : Receipt) → 1 ≤ i → i < length rs → r ≡ get_or rs (i - 1) d → s ≡ get_or rs i d → (IsBehind r s → ⊥) → IsOrdered rs → ⊥
not_behind rs i d r s from lt at too wrong all = wrong (all (i - 1) i r s (omega arith) (here_at rs (i - 1) d r (omega arith) at) (here_at rs i d s lt too))

at_distance : (rs : List Receipt) (n : ℕ) → length rs ≤ n → AreBehind rs n → (d p : ℕ) (r s : Receipt) → get_elem? rs p ≡ some r → get_elem? rs (p + 1 + d) ≡ some s → IsBehind r s
at_distance rs n far all zero p r s e f =
    let lt = inside rs s (p + 1 + 0) f in
    let same : p + 1 + 0 ≡ p + 1 = omega arith in
    all p r s (omega arith) e (ap (get_elem? rs) (sym same) ∙ f)
at_distance rs n far all (suc d) p r s e f =
    let lt = inside rs s (p + 1 + suc d) f in
    let m = element rs (p + 1 + d) (omega arith) in
    let same : p + 1 + suc d ≡ p + 1 + d + 1 = omega arith in
    let one = at_distance rs n far all d p r m.0 e m.1 in
    let two = all (p + 1 + d) m.0 s (omega arith) m.1 (ap (get_elem? rs) (sym same) ∙ f) in
    let a = one.0 in let b = two.0 in
    (omega arith, λ w. let u = two.1 w in omega arith)

pub all_behind : (rs : List Receipt) (n : ℕ) → length rs ≤ n → AreBehind rs n → IsOrdered rs
all_behind rs n far all p q r s lt e f =
    let same : q ≡ p + 1 + (q - p - 1) = omega arith in
    at_distance rs n far all (q - p - 1) p r s e (ap (get_elem? rs) (sym same) ∙ f)

pub ordered_nodes : (h : LineReceipts) → Each IsOrdered h.lists → KeepsOrdered h
ordered_nodes h all j p q r s lt e f =
    let l = element h.lists j (node_below h.lists j p r e) in
    let is : get_or h.lists j [] ≡ l.0 = get_elem h.lists j l.0 [] l.1 in
    all j l.0 l.1 p q r s lt (ap (λ (z : List Receipt). get_elem? z p) (sym is) ∙ e) (ap (λ (z : List Receipt). get_elem? z q) (sym is) ∙ f)

pub ordered_lists : (h : LineReceipts) → KeepsOrdered h → Each IsOrdered h.lists
ordered_lists h all j rs at = subst IsOrdered (get_elem h.lists j rs [] at) (all j)
