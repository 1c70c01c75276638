-- From what reading gives back to its parts.
use Rattle.std.proofs.Common.{◌≡◌, ℕ, Bool, true, false, Option, Some, None, Result, Ok, Err, List, ◌++◌, take, drop, length, bytes_eq, refl, sym, ap, ◌∙◌, take-append-drop, if◌then◌else◌}
use Rattle.std.proofs.lemmas.Slice.Eq.{bytes_eq-Decides}
use Rattle.sci_dump.specs.declared.refusals.DumpRefusal.{DumpRefusal}
use Rattle.sci_dump.specs.Reading.{◌>>=◌, ◌>>>◌, on_line, behind}

pub some_of : {A : Type 0} (x y : A) → Some x ≡ Some y → x ≡ y
some_of x y e = cc

pub not_none : {A : Type 0} (y : A) → ◌≡◌ {A = Option A} None (Some y) → ⊥
not_none y e = cc

pub ok_of : {A : Type 0} (x y : A) → ◌≡◌ {A = Result A DumpRefusal} (Ok x) (Ok y) → x ≡ y
ok_of x y e = cc

pub not_err : {A : Type 0} (e : DumpRefusal) (y : A) → ◌≡◌ {A = Result A DumpRefusal} (Err e) (Ok y) → ⊥
not_err e y h = cc

-- a part and the rest of what gives a value
pub both_some : {A B : Type 0} (r : Option A) (f : A → Option B) (y : B) → (r >>= f) ≡ Some y → (x : A) × (r ≡ Some x) × (f x ≡ Some y)
both_some (Some x) f y h = (x, refl, h)
both_some None f y h = absurd (not_none y h)

pub both_ok : {A B : Type 0} (r : Result A DumpRefusal) (f : A → Result B DumpRefusal) (y : B) → (r >>> f) ≡ Ok y → (x : A) × (r ≡ Ok x) × (f x ≡ Ok y)
both_ok (Ok x) f y h = (x, refl, h)
both_ok (Err e) f y h = absurd (not_err e y h)

pub line_ok : {A : Type 0} (n : ℕ) (r : Option A) (x : A) → on_line n r ≡ Ok x → r ≡ Some x
line_ok n (Some z) x h = ap Some (ok_of z x h)
line_ok n None x h = absurd (not_err _ x h)

pub test_some : {A : Type 0} (b : Bool) (x y : A) → (if b then Some x else None) ≡ Some y → (b ≡ true) × (x ≡ y)
test_some true x y h = (refl, some_of x y h)
test_some false x y h = absurd (not_none y h)

pub behind_text : (bytes text rest : List ℕ) → behind bytes text ≡ Some rest → text ≡ bytes ++ rest
unfolding behind
behind_text bytes text rest h =
    let (test, is) = test_some (bytes_eq (take (length bytes) text) bytes) (drop (length bytes) text) rest h in
    let front : take (length bytes) text ≡ bytes = (bytes_eq-Decides (take (length bytes) text) bytes).0 test in
    sym (take-append-drop (length bytes) text) ∙ (ap (λ (xs : List ℕ). xs ++ drop (length bytes) text) front ∙ ap (λ (xs : List ℕ). bytes ++ xs) is)
