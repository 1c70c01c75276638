-- The keys of a map beside those of the members that it stands for, and what is wanted at each.
use Rattle.std.proofs.Common.{◌≡◌, ℕ, Bool, true, false, not, List, [], ◌∷◌, Option, Some, None, is_some, option_map, String, Global, Ordering, Less, Equal, Greater, nat_cmp, string_bytes, ◌&&◌, if◌then◌else◌, refl, ap, subst, sym, ◌∙◌, Bor, IfSome}
use Rattle.std.proofs.lemmas.Cmp.{nat_list_cmp_total}
use Rattle.std.proofs.lemmas.Option.{same_Some}
use Rattle.std.specs.Cmp.{tied_itself}
use Rattle.std.specs.Cmp.Lexicographic.{slice_cmp}
use Rattle.std.specs.List.{list_all, find}
use Rattle.std.specs.Map.{keys_of}
use Rattle.std.specs.Map.Iter.{deref}
use Rattle.std.specs.Ordering.{match_ordering}
use Rattle.toml.specs.Data.{Data, Members, get_member}
use Rattle.toml.specs.View.{view, members_view}
use Rattle.toml.specs.declared.value.Value.{Value}
use Rattle.sci_settings.specs.declared.misfits.Unread.{Unread}
use Rattle.sci_settings.specs.declared.misfits.Wanted.{Wanted}
use Rattle.sci_settings.specs.declared.misfits.Wanted.TheVariants as wants
use Rattle.sci_settings.specs.declared.works.Work.{Work}
use Rattle.sci_settings.specs.Settings as settings
use Rattle.sci_settings.specs.Settings.{IsWhy, is_needed, is_of_numbers, wanted_at}

pub keys_view : (work : Work) (es : List (String Global × Value)) → list_all (λ k. settings.is_key_of work (string_bytes k)) (keys_of es) ≡ settings.has_keys_of work (members_view es)
keys_view work [] = refl
keys_view work (e ∷ es) = ap (λ b. settings.is_key_of work (string_bytes e.0) && b) (keys_view work es)

fails_here : {A : Type 0} (b all : Bool) (x : A) (found : Option A) → is_some found ≡ not all → is_some (if not b then Some x else found) ≡ not (b && all)
fails_here true all x found e = e
fails_here false all x found e = refl

-- one that fails is found unless all pass
pub is_found : {A : Type 0} (p : A → Bool) (xs : List A) → is_some (find (λ x. not (p x)) xs) ≡ not (list_all p xs)
is_found p [] = refl
is_found p (x ∷ xs) = fails_here (p x) (list_all p xs) x (find (λ x. not (p x)) xs) (is_found p xs)

pub is_mapped : {A B : Type 0} (f : A → B) (o : Option A) → is_some o ≡ is_some (option_map f o)
is_mapped f None = refl
is_mapped f (Some x) = refl

stands_behind : (o : Ordering) (d : Data) (rest : Option Data) → is_some rest ≡ true → is_some (match_ordering o rest (Some d) rest) ≡ true
stands_behind Less d rest e = e
stands_behind Equal d rest e = refl
stands_behind Greater d rest e = e

-- a key that fails the test, and stands there
abbrev pub Stands : (String Global → Bool) → List (String Global × Value) → String Global → Type 0
Stands p es k = (p k ≡ false) × (is_some (get_member (string_bytes k) (members_view es)) ≡ true)

found_first : (p : String Global → Bool) (b : Bool) (e : String Global × Value) (es : List (String Global × Value)) (k : String Global) → p e.0 ≡ b → (find (λ x. not (p x)) (keys_of es) ≡ Some k → Stands p es k)
    → (if not b then Some e.0 else find (λ x. not (p x)) (keys_of es)) ≡ Some k → Stands p (e ∷ es) k
found_first p false e es k fails more is =
    subst (λ (x : String Global). Stands p (e ∷ es) x) (same_Some e.0 k is) (fails, rw (tied_itself nat_list_cmp_total (string_bytes e.0)))
found_first p true e es k passes more is = let (so, at) = more is in (so, stands_behind (slice_cmp nat_cmp (string_bytes k) (string_bytes e.0)) (view e.1) _ at)

found_stands : (p : String Global → Bool) (es : List (String Global × Value)) (k : String Global) → find (λ x. not (p x)) (keys_of es) ≡ Some k → Stands p es k
found_stands p [] k is = absurd (let h = is in cc)
found_stands p (e ∷ es) k is = found_first p (p e.0) e es k refl (found_stands p es k) is

pub all_found_stand : (p : String Global → Bool) (es : List (String Global × Value)) (r : Option (Bor (String Global))) → option_map (deref {X = String Global}) r ≡ find (λ x. not (p x)) (keys_of es) → IfSome r (λ k. Stands p es k.now)
all_found_stand p es None is = tt
all_found_stand p es (Some k) is = found_stands p es k.now (sym is)

-- what is wanted there may not be left out
pub needed_at : (work : Option Work) (key : List ℕ) (wanted : Wanted) → wanted_at work key ≡ Some wanted → is_needed (Some wanted) ≡ true → is_needed (wanted_at work key) ≡ true
needed_at work key wanted at is = ap is_needed at ∙ is

pub numbers_needed : (wanted : Wanted) → is_of_numbers (Some wanted) ≡ true → is_needed (Some wanted) ≡ true
numbers_needed wants.Cells is = refl
numbers_needed wants.Items is = refl
numbers_needed wants.Work is = refl
numbers_needed (wants.Number low high) is = refl
numbers_needed wants.Flag is = absurd (let h = is in cc)

-- why a table of this work is none
pub why_of : (o work : Option Work) (ms : Members) (e : Unread) → IsWhy work ms e → o ≡ work → IsWhy o ms e
why_of o work ms e why is = subst (λ (x : Option Work). IsWhy x ms e) (sym is) why
