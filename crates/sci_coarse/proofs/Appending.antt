-- The law of one run is not empty. Each take, miss and give of a seat adds itself alone to the log of the seat; and until seats are
-- joined none was: the line opens so, and these steps and splitting seats off leave it so.
use Rattle.std.proofs.Common.{◌≡◌, ℕ, zero, suc, List, [], ◌∷◌, ◌++◌, append-nil, set, refl, sym, ap, ◌∙◌, ⊎_elim}
use mathlib.Core.Option.{some, some-injective, some-ne-none}
use lib.ListN.{get_elem?}
use Rattle.atomic_table.specs.Table.{Act, opening, stepped}
use Rattle.atomic_table.proofs.Lists.{at_set}
use Rattle.sci_core.specs.Whole.{WholeLine}
use Rattle.sci_port.specs.declared.calls.Call.{Call}
use Rattle.sci_coarse.specs.declared.views.Entry.TheVariants.{Took, Missed, Gave}
use Rattle.sci_coarse.specs.declared.views.Terms.{Terms}
use Rattle.sci_coarse.specs.declared.views.View.{View}
use Rattle.sci_coarse.specs.Laws.{AreApart, Adds, IsOneStep}
use Rattle.sci_coarse.specs.Rule.{Shared}
use Rattle.sci_coarse.specs.Views.{first_view, new_view, split_view, took, missed, gave}
use Rattle.sci_coarse.proofs.Listed.{at_end}

put_back : {A : Type 0} (l : List A) (i : ℕ) (a : A) → get_elem? l i ≡ some a → l ≡ set l i a
put_back [] i a e = refl
put_back {A} (x ∷ xs) zero a e = ap (λ (y : A). y ∷ xs) (some-injective x a e)
put_back {A} (x ∷ xs) (suc i) a e = ap (λ (l : List A). x ∷ l) (put_back xs i a e)

first_apart : {K : Type 0} (t : Terms K) (ws : List ℕ) (xs : List (WholeLine K)) → AreApart t (opening ws xs (first_view t))
first_apart {K} t ws xs zero u e = sym (ap (λ (x : View K). x.of) (some-injective (first_view t) u e))
first_apart t ws xs (suc j) u e = absurd (some-ne-none u (sym e))

module _ {K : Type 0} (t : Terms K) (s : Shared K) (id : ℕ) (v : View K) (at : get_elem? s.views id ≡ some v) where
  -- a step that is not logged
  no_step : Adds s s id []
  no_step = record { before = v; after = v; at = at; views = put_back s.views id v at; of = refl; node = refl; log = sym (append-nil v.log) }

  split_apart : AreApart t s → AreApart t record { words = s.words; homes = s.homes; views = set s.views id (split_view v) ++ new_view v ∷ [] }
  split_apart all j u e = ⊎_elim
      (λ old. ⊎_elim (λ h. sym (ap (λ (x : View K). x.of) h.1) ∙ all id v at) (λ h. all j u h.1) (at_set s.views id j (split_view v) u old))
      (λ last. sym (ap (λ (x : View K). x.of) last.1) ∙ all id v at) (at_end (set s.views id (split_view v)) (new_view v) u j e)

  module _ (i z : ℕ) (c : List (ℕ × WholeLine K)) (act : Act (WholeLine K)) (place : ℕ) (x : WholeLine K) (call : Call) where
    one_take : IsOneStep s (stepped s i z id c (took v place x) act) id place Took
    one_take = record { before = v; after = took v place x; at = at; views = refl; of = refl; node = refl; log = refl }

    one_miss : IsOneStep s (stepped s i z id c (missed v place) act) id place Missed
    one_miss = record { before = v; after = missed v place; at = at; views = refl; of = refl; node = refl; log = refl }

    one_give : IsOneStep s (stepped s i z id c (gave v place x call) act) id place (Gave call)
    one_give = record { before = v; after = gave v place x call; at = at; views = refl; of = refl; node = refl; log = refl }

    step_apart : (w : View K) → w.of ≡ v.of → AreApart t s → AreApart t (stepped s i z id c w act)
    step_apart w of all j u e = ⊎_elim (λ h. sym (ap (λ (x : View K). x.of) h.1) ∙ (of ∙ all id v at)) (λ h. all j u h.1) (at_set s.views id j w u e)
