-- What `?` returns of a refusal, and what holds of a result that is the same.
use Rattle.std.proofs.Common.{◌≡◌, Result, Ok, Err, IfErr, IfOk, OnOk, sym, subst}
use Rattle.std.specs.Result.{IsErrAnd}

pub passed_on : {T E : Type 0} (r : Result T E) (e : E) (P : E → Type 0) → IsErrAnd r (λ y. y ≡ e) → P e → IfErr r P
passed_on (Ok x) e P is holds = tt
passed_on (Err y) e P is holds = subst P (sym is) holds

pub if_ok_same : {T E : Type 0} (r s : Result T E) (P : T → Type 0) → s ≡ r → IfOk r P → IfOk s P
if_ok_same r s P is holds = subst (λ t. IfOk t P) (sym is) holds

pub on_ok_same : {T E : Type 0} (r s : Result T E) (P : Type 0) → s ≡ r → OnOk r P → OnOk s P
on_ok_same r s P is holds = subst (λ t. OnOk t P) (sym is) holds

-- what follows of a value from what holds of it
pub both_ok : {T E : Type 0} (r : Result T E) (P Q R : T → Type 0) → ((x : T) → P x → Q x → R x) → IfOk r P → IfOk r Q → IfOk r R
both_ok (Ok x) P Q R f p q = f x p q
both_ok (Err e) P Q R f p q = tt
