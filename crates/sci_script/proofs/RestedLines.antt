-- Lines that are brought to rest, one after another.
use Rattle.std.proofs.Common.{◌≡◌, ◌∙◌, ℕ, suc, ◌+◌, ◌*◌, ◌<◌, ◌≤◌, List, length, get_or, set, All, refl, sym, ap, subst, ⊎_elim, inl, inr, arith}
use Rattle.std.proofs.lemmas.Bool.{cases_eq, cases_lt}
use Rattle.std.proofs.lemmas.List.{get_or_read, get_or_default, get_or-set_same, get_or-set_other, get_or_past}
use Rattle.sci_core.specs.declared.keeps.AnyWords.{AnyWords}
use Rattle.sci_core.specs.Progress.{IsAtRest}
use Rattle.sci_core.specs.Whole.{WholeLine, IsSameLine, nodes_of, state_of}
use Rattle.sci_port.specs.Banks.{AreLinesOf, IsLineOf}
use Rattle.sci_core.specs.State.{update}
use Rattle.sci_ops.proofs.Ending.Counting.{updated, not_updated}
use Rattle.sci_ops.proofs.Resting.Turning.{same_line}
use Rattle.sci_script.specs.Nodes.{whole_of}
use Rattle.sci_script.specs.Resting.{ComesToRest, ComeToRest}
use Rattle.sci_script.specs.Unused.{no_line}

-- the line w that was read at place k has become v
module _ (n : ℕ) (first items : List (WholeLine AnyWords)) (k p : ℕ) (w v : WholeLine AnyWords) (place : p ≡ k) (inside : k < length items) (found : w ≡ get_or items p w) where
  pub here : w ≡ whole_of items k
  here = get_or_read items k w inside (subst (λ (j : ℕ). w ≡ get_or items j w) place found) no_line

  now : whole_of (set items p v) k ≡ v
  now = subst (λ (j : ℕ). whole_of (set items j v) k ≡ v) (sym place) (get_or-set_same items k v no_line inside)

  other : (j : ℕ) → (j ≡ k → ⊥) → whole_of (set items p v) j ≡ whole_of items j
  other j d = get_or-set_other items p j v no_line (λ q. d (q ∙ place))

  pub same_after : ((j : ℕ) → IsSameLine (whole_of first j) (whole_of items j)) → IsSameLine w v → (j : ℕ) → IsSameLine (whole_of first j) (whole_of (set items p v) j)
  same_after all one j =
      let was : IsSameLine (whole_of first k) w = subst (λ (x : WholeLine AnyWords). IsSameLine (whole_of first k) x) (sym here) (all k) in
      let is : IsSameLine (whole_of first k) (whole_of (set items p v) k) = subst (λ (x : WholeLine AnyWords). IsSameLine (whole_of first k) x) (sym now) (same_line (whole_of first k) w v was one) in
      ⊎_elim
      (λ q. subst (λ (m : ℕ). IsSameLine (whole_of first m) (whole_of (set items p v) m)) (sym q) is)
      (λ d. subst (λ (x : WholeLine AnyWords). IsSameLine (whole_of first j) x) (sym (other j d)) (all j))
      (cases_eq j k)

  pub left_after : ((j : ℕ) → k ≤ j → whole_of items j ≡ whole_of first j) → (j : ℕ) → k + 1 ≤ j → whole_of (set items p v) j ≡ whole_of first j
  left_after left j le = other j (λ q. omega (arith, le, q)) ∙ left j (omega (arith, le))

  pub rested_after : (turns j : ℕ) → ComeToRest n k first turns items → ((l : ℕ) → k ≤ l → whole_of items l ≡ whole_of first l) → nodes_of w ≡ n → ComesToRest (nodes_of w) (state_of w) j (state_of v) → ComeToRest n (k + 1) first (turns + j) (set items p v)
  rested_after turns j before left wide came =
      let at : ComesToRest n (state_of w) j (state_of v) = subst (λ (m : ℕ). ComesToRest m (state_of w) j (state_of v)) wide came in
      let was : w ≡ whole_of first k = here ∙ left k (omega arith) in
      let is : ComesToRest n (state_of (whole_of first k)) j (state_of (whole_of (set items p v) k)) =
      subst (λ (x : WholeLine AnyWords). ComesToRest n (state_of (whole_of first k)) j (state_of x)) (sym now)
      (subst (λ (x : WholeLine AnyWords). ComesToRest n (state_of x) j (state_of v)) was at) in
      let taken : ℕ → ℕ = update before.taken (k + 1) (turns + j) in
      let kept : (i : ℕ) → i < k + 1 → taken i ≡ before.taken i = λ i l. not_updated before.taken (k + 1) (turns + j) i (λ q. omega (arith, q, l)) in
      let next : suc k ≡ k + 1 = omega arith in
      let last : taken (suc k) ≡ turns + j = ap taken next ∙ updated before.taken (k + 1) (turns + j) in
      record {
        taken = taken;
        none = kept 0 (omega arith) ∙ before.none;
        all = updated before.taken (k + 1) (turns + j);
        lines = λ l lt. ⊎_elim
            (λ q. subst (λ (m : ℕ). (a : ℕ) × (taken (suc m) ≡ taken m + a) × ComesToRest n (state_of (whole_of first m)) a (state_of (whole_of (set items p v) m))) (sym q)
            (j, last ∙ ap (λ (a : ℕ). a + j) (sym (kept k (omega arith) ∙ before.all)), is))
            (λ d.
            let one = before.lines l (omega (arith, lt, d)) in (
              one.0,
              kept (suc l) (omega (arith, lt, d)) ∙ one.1 ∙ ap (λ (a : ℕ). a + one.0) (sym (kept l lt)),
              subst (λ (x : WholeLine AnyWords). ComesToRest n (state_of (whole_of first l)) one.0 (state_of x)) (sym (other l d)) one.2,
            ))
            (cases_eq l k);
      }

-- lines that keep their widths are as wide as before
pub stay_wide : (n : ℕ) (first items : List (WholeLine AnyWords)) → length items ≡ length first → ((j : ℕ) → nodes_of (whole_of items j) ≡ nodes_of (whole_of first j)) → All (λ w. nodes_of w ≡ n) first → All (λ w. nodes_of w ≡ n) items
stay_wide n first items count same wide = λ line d lt. ap nodes_of (get_or_default items line d no_line lt) ∙ same line ∙ wide line no_line (subst (λ (m : ℕ). line < m) count lt)

-- lines that stay the same but for their states are still those of a bank, and as wide
module _ (first items : List (WholeLine AnyWords)) (count : length items ≡ length first) (same : (j : ℕ) → IsSameLine (whole_of first j) (whole_of items j)) where
  pub lines_stay : (keep : AnyWords) (node : ℕ) → AreLinesOf keep node first → AreLinesOf keep node items
  lines_stay keep node h = record {
    some = subst (λ (m : ℕ). 0 < m) (sym count) h.some;
    few = subst (λ (m : ℕ). m ≤ 1024) (sym count) h.few;
    each = λ line d lt.
        let was : IsLineOf keep node line (whole_of first line) = h.each line no_line (omega (arith, lt, count)) in
        let at : IsLineOf keep node line (whole_of items line) = record {
          number = (same line).number ∙ was.number;
          fact = (same line).keep ∙ was.fact;
          below = subst (λ (m : ℕ). node < m) (sym (same line).nodes) was.below;
        } in
        subst (λ (x : WholeLine AnyWords). IsLineOf keep node line x) (get_or_default items line no_line d lt) at;
  }

  pub widths_stay : (n : ℕ) → All (λ w. nodes_of w ≡ n) first → All (λ w. nodes_of w ≡ n) items
  widths_stay n wide = stay_wide n first items count (λ j. (same j).nodes) wide

-- each line that there is comes to rest, and where none is, all is at rest
pub all_at_rest : (n m : ℕ) (first items : List (WholeLine AnyWords)) (turns : ℕ) → length items ≡ m → ComeToRest n m first turns items → (line : ℕ) → IsAtRest (state_of (whole_of items line))
all_at_rest n m first items turns count rested line =
    elim (cases_lt line m) [
      | inl less ↦ (rested.lines line less).2.rest
      | inr more ↦ subst (λ (x : WholeLine AnyWords). IsAtRest (state_of x)) (sym (get_or_past items line no_line (omega (arith, more, count)))) (λ i. refl)
    ]
