-- Room that was asked for.
use Rattle.std.proofs.Common.{◌≡◌, ◌<◌, ◌≤◌, inl, inr, ℕ, Bool, true, Option, Some, None, IfSome, Result, Ok, Err, IfOk, OnOk, OnErr, is_ok, refl, sym, ap, subst, ◌∙◌, arith}
use Rattle.std.proofs.lemmas.Bool.{cases_eq}
use Rattle.sci_port.specs.Readying.{ChangesAt, Reserves}
use Rattle.sci_port.specs.ReceiptList.{ReceiptList}
use Rattle.sci_ops.specs.declared.goals.Goal.{Goal}
use Rattle.sci_cache.specs.Called.{IsReadyFor, IsSameButRoom, most_needed}

pub on_ok : {T E : Type 0} {P : Type 0} (r : Result T E) → (is_ok r ≡ true → P) → OnOk r P
on_ok (Ok x) h = h refl
on_ok (Err e) h = tt

pub ok_with : {T E : Type 0} {P Q : T → Type 0} (r : Result T E) → IfOk r P → ((x : T) → P x → Q x) → IfOk r Q
ok_with (Ok x) h f = f x h
ok_with (Err e) h f = tt

pub on_ok_with : {T E : Type 0} {P Q : Type 0} (r : Result T E) → OnOk r P → (P → Q) → OnOk r Q
on_ok_with (Ok x) h f = f h
on_ok_with (Err e) h f = tt

pub on_err_with : {T E : Type 0} {P Q : Type 0} (r : Result T E) → OnErr r P → (P → Q) → OnErr r Q
on_err_with (Ok x) h f = tt
on_err_with (Err e) h f = f h

pub either_way : {T E : Type 0} {P : Type 0} (r : Result T E) → OnOk r P → OnErr r P → P
either_way (Ok x) h k = h
either_way (Err e) h k = k

-- there is room for the eviction of a line that is put out, and its mark is set
pub ready_out_by : (v : Option ℕ) (before after : ℕ → ReceiptList) → IfSome v (λ w. (after w).passing ≡ true) → IfSome v (λ w. most_needed Goal.Evict ≤ (before w).room) → ((w : ℕ) → (before w).room ≤ (after w).room) → IfSome v (λ w. IsReadyFor Goal.Evict (after w))
ready_out_by None before after mark room grows = tt
ready_out_by (Some w) before after mark room grows = let more = grows w in record { mark = mark; room = omega (arith, room, more) }

pub more_room : (n a b c : ℕ) → n ≤ a → a ≤ b → b ≤ c → n ≤ c
more_room n a b c h k l = omega (arith, h, k, l)

pub less_room : (n room s : ℕ) → room < n → room ≡ s → n ≤ s → ⊥
less_room n room s h same k = omega (arith, h, same, k)

pub reserves_same : (n : ℕ) (ok : Bool) (before : ℕ → ReceiptList) (line : ℕ) (after : ℕ → ReceiptList) → ChangesAt (Reserves n ok) before line after → (m : ℕ) → IsSameButRoom (before m) (after m)
reserves_same n ok before line after h m = elim (cases_eq m line) [
  | inl e ↦ subst (λ (k : ℕ). IsSameButRoom (before k) (after k)) (sym e) (record { list = h.here.list; passing = h.here.passing })
  | inr ne ↦ record { list = ap (λ (s : ReceiptList). s.list) (h.others m ne); passing = ap (λ (s : ReceiptList). s.passing) (h.others m ne) }
]

pub same_then : {a b c : ReceiptList} → IsSameButRoom a b → IsSameButRoom b c → IsSameButRoom a c
same_then h k = record { list = k.list ∙ h.list; passing = k.passing ∙ h.passing }
