-- What is made of the line in hand through its slot.
use Rattle.std.proofs.Common.{◌≡◌, ℕ, List, [], ◌∷◌, refl, sym, ap, ◌∙◌, subst}
use Rattle.atomic_table.specs.Table.{rest}
use Rattle.sci_core.specs.Whole.{WholeLine}
use Rattle.sci_port.specs.declared.calls.Call.{Call}
use Rattle.sci_coarse.specs.Runs.{Calls}
use Rattle.sci_coarse.specs.Regions.{Seated, HasCalled}

pub whole_hand : {K : Type 0} (c : List (ℕ × WholeLine K)) (w : WholeLine K) → c ≡ (0, w) ∷ [] → c ≡ (0, w) ∷ rest c
whole_hand c w e = e ∙ (λ i. (0, w) ∷ sym (ap rest e) i)

first_or : {K : Type 0} → WholeLine K → List (ℕ × WholeLine K) → WholeLine K
first_or d [] = d
first_or d (x ∷ xs) = x.1

pub same_hand : {K : Type 0} (c : List (ℕ × WholeLine K)) (v w : WholeLine K) → c ≡ (0, v) ∷ [] → c ≡ (0, w) ∷ rest c → v ≡ w
unfolding first_or
same_hand c v w e f = ap (first_or v) (sym e ∙ f)

pub lent : {K : Type 0} (fits : K → ℕ → List ℕ → Type 0) (node : ℕ) (call : Call) (m : Seated K) (w v x : WholeLine K) → m.1 ≡ (0, w) ∷ [] → m.1 ≡ (0, v) ∷ rest m.1 → Calls fits node call v x → HasCalled fits node call m (m.0, (0, x) ∷ rest m.1)
lent {K} fits node call m w v x e f calls = (w, x, e, (λ i. (0, x) ∷ ap rest e i), refl, subst (λ (u : WholeLine K). Calls fits node call u x) (sym (same_hand m.1 w v e f)) calls)

pub same_given : {K : Type 0} (c : List (ℕ × WholeLine K)) (w x y : WholeLine K) → c ≡ (0, w) ∷ [] → ◌≡◌ {A = List (ℕ × WholeLine K)} ((0, x) ∷ rest c) ((0, y) ∷ []) → x ≡ y
unfolding first_or
same_given c w x y e f = ap (first_or w) f
