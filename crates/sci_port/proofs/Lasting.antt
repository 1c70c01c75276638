-- The last receipt of a list.
use Rattle.std.proofs.Common.{◌≡◌, ℕ, suc, ◌<◌, ◌-◌, Bool, true, false, Bor, Option, Some, None, option_copied, List, [], ◌∷◌, ◌++◌, length, slice_set, slice_get, refl, sym, ap, ◌∙◌, arith}
use Rattle.sci_core.specs.declared.receipts.Receipt.{Receipt}
use Rattle.sci_port.proofs.Elements.{clash}
use Rattle.sci_port.specs.KeepsTo.{is_passed}
use Rattle.sci_port.specs.ReceiptList.{Replaces, ReceiptList, last_passed}

-- a receipt that may be there was passed
abbrev pub passed_in : Option Receipt → Bool
passed_in (Some r) = is_passed r
passed_in None = false

pub last_get : (l : List Receipt) → last_passed l ≡ passed_in (slice_get l (length l - 1))
last_get [] = refl
last_get (r ∷ []) = refl
last_get (r ∷ s ∷ rs) = last_get (s ∷ rs) ∙ ap (λ (k : ℕ). passed_in (slice_get (r ∷ s ∷ rs) k)) (let z : suc (length (s ∷ rs) - 1) ≡ length (r ∷ s ∷ rs) - 1 = omega arith in z)

-- there is a last one, and another can be set in its place
pub record IsLast (l : List Receipt) : Type 0 where
  pub before : List Receipt
  pub last : Receipt
  pub was : l ≡ before ++ last ∷ []
  pub passed : is_passed last ≡ true
  pub set : (r : Receipt) → slice_set l (length l - 1) r ≡ before ++ r ∷ []
  pub some : 0 < length l

pub last_is : (l : List Receipt) → last_passed l ≡ true → IsLast l
last_is [] h = absurd (clash false h refl)
last_is (r ∷ []) h = record { before = []; last = r; was = refl; passed = h; set = λ s. refl; some = omega arith }
last_is (r ∷ s ∷ rs) h =
    let k = last_is (s ∷ rs) h in
    record {
      before = r ∷ k.before;
      last = k.last;
      was = ap (λ (z : List Receipt). r ∷ z) k.was;
      passed = k.passed;
      set = λ t. ap (λ (i : ℕ). slice_set (r ∷ s ∷ rs) i t) (let z : length (r ∷ s ∷ rs) - 1 ≡ suc (length (s ∷ rs) - 1) = omega arith in z) ∙ ap (λ (z : List Receipt). r ∷ z) (k.set t);
      some = omega arith;
    }

-- what `last` gives
pub last_given : (o : Option (Bor Receipt)) (x : Bor Receipt) (l m : List Receipt) → o ≡ Some x → option_copied o ≡ slice_get l (length l - 1) → l ≡ m → is_passed x.now ≡ last_passed m
last_given o x l m is gives same =
    ap (λ (z : Option (Bor Receipt)). passed_in (option_copied z)) (sym is) ∙ (ap passed_in gives ∙ (sym (last_get l) ∙ ap last_passed same))

-- another was set in the place of the last
pub replaced : (s t : ReceiptList) (r : Receipt) (k : ℕ) → last_passed s.list ≡ true → k ≡ length s.list - 1 → t.list ≡ slice_set s.list k r → t.passing ≡ s.passing → t.room ≡ s.room → Replaces s r t
replaced s t r k h at list passing room =
    let l = last_is s.list h in
    record { before = l.before; last = l.last; was = l.was; passed = l.passed; list = list ∙ (ap (λ (i : ℕ). slice_set s.list i r) at ∙ l.set r); passing = passing; room = room }
