-- Receipts by node and place.
use Rattle.std.proofs.Common.{◌≡◌, ◌≢◌, ℕ, zero, suc, ◌+◌, ◌<◌, ◌≤◌, Bool, true, false, Option, Some, None, is_some, List, [], ◌∷◌, length, get_or, set, replicate, refl, sym, ap, ◌∙◌, arith}
use mathlib.Core.Option.{some, some-injective, some-ne-none}
use lib.ListN.{get_elem?}
use Rattle.sci_core.specs.declared.receipts.Receipt.{Receipt}
use Rattle.sci_core.specs.declared.receipts.Receipt.TheVariants.{Read, Passed, Wrote}
use Rattle.sci_core.specs.Legal.{stamp_of, is_write}
use Rattle.sci_dump.specs.Rules.{Decides}
use Rattle.sci_dump.proofs.Deciding.{same_default}
use Rattle.sci_port.proofs.Elements.{looked_at, looked_all}
use Rattle.sci_histories.specs.Each.{Each}
use Rattle.sci_histories.specs.Histories.{LineReceipts}
use Rattle.sci_histories.specs.Rules.{EachReceipt, IsWithin, KeepsWithin}
use Rattle.sci_histories.specs.Table.{IsFull, WritesAs}

pub decides_same : {P Q : Type 0} (b : Bool) → (P → Q) → (Q → P) → Decides b P → Decides b Q
decides_same true to from p = to p
decides_same false to from never = λ q. never (from q)

-- what is read at a place, by default
pub get_elem : {A : Type 0} (xs : List A) (k : ℕ) (x d : A) → get_elem? xs k ≡ some x → get_or xs k d ≡ x
get_elem [] k x d e = absurd (some-ne-none x (sym e))
get_elem (y ∷ xs) zero x d e = some-injective y x e
get_elem (y ∷ xs) (suc k) x d e = get_elem xs k x d e

pub element : {A : Type 0} (xs : List A) (k : ℕ) → k < length xs → (x : A) × (get_elem? xs k ≡ some x)
element [] k lt = absurd (omega arith)
element (x ∷ xs) zero lt = (x, refl)
element (x ∷ xs) (suc k) lt = element xs k (omega arith)

to_places : (P : Receipt → Type 0) (ls : List (List Receipt)) → Each (Each P) ls → (j p : ℕ) (r : Receipt) → get_elem? (get_or ls j []) p ≡ some r → P r
to_places P [] all j p r e = absurd (some-ne-none r (sym e))
to_places P (l ∷ ls) all zero p r e = all zero l refl p r e
to_places P (l ∷ ls) all (suc j) p r e = to_places P ls (λ k x f. all (suc k) x f) j p r e

pub each_receipt : (P : Receipt → Type 0) (h : LineReceipts) → Each (Each P) h.lists → EachReceipt P h
each_receipt P h all = to_places P h.lists all

pub each_list : (P : Receipt → Type 0) (h : LineReceipts) → EachReceipt P h → Each (Each P) h.lists
each_list P h all j rs at p r e = all j p r (ap (λ (l : List Receipt). get_elem? l p) (get_elem h.lists j rs [] at) ∙ e)

pub node_below : (ls : List (List Receipt)) (j p : ℕ) (r : Receipt) → get_elem? (get_or ls j []) p ≡ some r → j < length ls
node_below [] j p r e = absurd (some-ne-none r (sym e))
node_below (l ∷ ls) zero p r e = omega arith
node_below (l ∷ ls) (suc j) p r e = let lt = node_below ls j p r e in omega arith

-- slots
pub set_here : {A : Type 0} (xs : List A) (k : ℕ) (a : A) → k < length xs → get_elem? (set xs k a) k ≡ some a
set_here [] k a lt = absurd (omega arith)
set_here (x ∷ xs) zero a lt = refl
set_here (x ∷ xs) (suc k) a lt = set_here xs k a (omega arith)

pub set_else : {A : Type 0} (xs : List A) (k j : ℕ) (a : A) → j ≢ k → get_elem? (set xs k a) j ≡ get_elem? xs j
set_else [] k j a ne = refl
set_else (x ∷ xs) zero zero a ne = absurd (ne refl)
set_else (x ∷ xs) zero (suc j) a ne = refl
set_else (x ∷ xs) (suc k) zero a ne = refl
set_else (x ∷ xs) (suc k) (suc j) a ne = set_else xs k j a (λ e. ne (ap suc e))

pub full_of : (xs : List (Option (List ℕ))) (k : ℕ) → is_some (get_or xs k None) ≡ true → IsFull xs k
full_of [] k h = absurd (cc)
full_of (Some w ∷ xs) zero h = (w, refl)
full_of (None ∷ xs) zero h = absurd (cc)
full_of (x ∷ xs) (suc k) h = full_of xs k h

pub not_full : (xs : List (Option (List ℕ))) (k : ℕ) → is_some (get_or xs k None) ≡ false → IsFull xs k → ⊥
not_full [] k h f = some-ne-none (Some f.0) (sym f.1)
not_full (Some w ∷ xs) zero h f = absurd (cc)
not_full (None ∷ xs) zero h f = let e = some-injective None (Some f.0) f.1 in absurd (cc)
not_full (x ∷ xs) (suc k) h f = not_full xs k h f

pub none_full : (n k : ℕ) (w : List ℕ) → get_elem? (replicate n None) k ≡ some (Some w) → ⊥
none_full zero k w e = some-ne-none (Some w) (sym e)
none_full (suc n) zero w e = let d = some-injective None (Some w) e in absurd (cc)
none_full (suc n) (suc k) w e = none_full n k w e

pub some_value : (x : Option (List ℕ)) → is_some x ≡ true → (w : List ℕ) × (x ≡ Some w)
some_value (Some w) h = (w, refl)
some_value None h = absurd (cc)

pub writes_as : (stamp : ℕ) (w : List ℕ) (r : Receipt) → WritesAs stamp w r → (is_write r ≡ true) × (stamp_of r ≡ stamp)
writes_as stamp w (Wrote before now s) h = (refl, h.0)
writes_as stamp w (Read now s) h = absurd h
writes_as stamp w (Passed now s) h = absurd h

pub keeps_within : (h : LineReceipts) (b : Bool) → h.opening.stamp ≤ h.closing.stamp → Decides b (Each (Each (IsWithin h.opening.stamp h.closing.stamp)) h.lists) → Decides b (KeepsWithin h)
keeps_within h true rises all = (rises, each_receipt (IsWithin h.opening.stamp h.closing.stamp) h all)
keeps_within h false rises never = λ k. never (each_list (IsWithin h.opening.stamp h.closing.stamp) h k.1)

-- what is read at a place within the list stands there, whatever the default
pub elem_or : {A : Type 0} (xs : List A) (i : ℕ) (d : A) → i < length xs → get_elem? xs i ≡ some (get_or xs i d)
elem_or [] i d lt = absurd (omega arith)
elem_or (x ∷ xs) zero d lt = refl
elem_or (x ∷ xs) (suc i) d lt = elem_or xs i d (omega arith)

pub looked_or : {A : Type 0} (P : A → Type 0) (xs : List A) (i : ℕ) (d : A) → i < length xs → P (get_or xs i d) → ((k : ℕ) (y : A) → k < i → get_elem? xs k ≡ some y → P y) → (k : ℕ) (y : A) → k < i + 1 → get_elem? xs k ≡ some y → P y
looked_or {A} P xs i d lt here old = looked_at (λ (k : ℕ) (y : A). P y) xs i (get_or xs i d) lt (same_default xs i d (get_or xs i d) lt) here old

pub looked_each : {A : Type 0} (P : A → Type 0) (xs : List A) (i : ℕ) → length xs ≤ i → ((k : ℕ) (y : A) → k < i → get_elem? xs k ≡ some y → P y) → Each P xs
looked_each {A} P xs i far old = looked_all (λ (k : ℕ) (y : A). P y) xs i far old
