-- The law of one run is not empty. Each call of a seat adds itself alone to the log of the seat, and is counted once; and until seats
-- are joined none was: the line opens so, and calls and splitting seats off leave it so.
use Rattle.std.proofs.Common.{◌≡◌, ℕ, zero, suc, ◌+◌, List, [], ◌∷◌, ◌++◌, append-nil, set, refl, sym, ap, ◌∙◌, ⊎_elim}
use mathlib.Core.Option.{some, some-injective, some-ne-none}
use lib.ListN.{get_elem?}
use lib.Seq.{set-get_or}
use Rattle.atomic_table.specs.Table.{Act, opening, stepped}
use Rattle.atomic_table.proofs.Lists.{at_set}
use Rattle.sci_core.specs.declared.lines.Line.{Line}
use Rattle.sci_core.specs.declared.pending.Pending.{Pending}
use Rattle.sci_port.specs.declared.calls.Call.{Call}
use Rattle.sci_fine.specs.declared.views.Terms.{Terms}
use Rattle.sci_fine.specs.declared.views.View.{View}
use Rattle.sci_fine.specs.Laws.{AreApart, Adds}
use Rattle.sci_fine.specs.Rule.{Shared}
use Rattle.sci_fine.specs.Views.{first_view, new_view, split_view, saw}
use Rattle.sci_fine.proofs.Elements.{at_end}
use Rattle.sci_fine.proofs.Ending.{get_at}

first_apart : {K : Type 0} (t : Terms K) (ws : List ℕ) (xs : List Line) → AreApart t (opening ws xs (first_view t))
first_apart {K} t ws xs zero u e = sym (ap (λ (x : View K). x.of) (some-injective (first_view t) u e))
first_apart t ws xs (suc j) u e = absurd (some-ne-none u (sym e))

module _ {K : Type 0} (t : Terms K) (s : Shared K) (id : ℕ) (v : View K) (at : get_elem? s.views id ≡ some v) where
  -- a step that makes no call
  no_call : Adds s s id []
  no_call = record { before = v; after = v; at = at; views = sym (ap (set s.views id) (sym (get_at s.views id v v at)) ∙ set-get_or s.views id v); of = refl; log = sym (append-nil v.log) }

  split_apart : AreApart t s → AreApart t record { words = s.words; homes = s.homes; views = set s.views id (split_view v) ++ new_view v ∷ [] }
  split_apart all j u e = ⊎_elim
      (λ old. ⊎_elim (λ h. sym (ap (λ (x : View K). x.of) h.1) ∙ all id v at) (λ h. all j u h.1) (at_set s.views id j (split_view v) u old))
      (λ last. sym (ap (λ (x : View K). x.of) last.1) ∙ all id v at) (at_end (set s.views id (split_view v)) (new_view v) u j e)

  module _ (i z : ℕ) (c : List (ℕ × Line)) (act : Act Line) (turn : ℕ) (call : Call) (p : Pending) (place word : ℕ) where
    w : View K
    w = saw v turn call p place word

    one_call : Adds s (stepped s i z id c w act) id ((turn, call) ∷ [])
    unfolding w
    one_call = record { before = v; after = w; at = at; views = refl; of = refl; log = refl }

    counted : (w.steps ≡ v.steps + 1) × (w.place ≡ place) × (w.word ≡ word)
    unfolding w
    counted = (refl, refl, refl)

    call_apart : AreApart t s → AreApart t (stepped s i z id c w act)
    unfolding w
    call_apart all j u e = ⊎_elim (λ h. sym (ap (λ (x : View K). x.of) h.1) ∙ all id v at) (λ h. all j u h.1) (at_set s.views id j w u e)
