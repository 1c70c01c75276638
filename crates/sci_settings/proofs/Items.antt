-- The numbers of an array, one item after another.
use Rattle.std.proofs.Common.{◌≡◌, ℕ, ◌+◌, ◌<◌, ◌≤◌, length, get_or, drop, List, [], ◌∷◌, ◌++◌, Option, Some, None, option_map, refl, sym, ap, subst, ◌∙◌, append_assoc, append-nil}
use Rattle.std.proofs.Math.ListN.{drop_of_length-le}
use Rattle.toml.specs.Data.{Data, Items, item}
use Rattle.toml.specs.View.{view, items_view}
use Rattle.toml.specs.declared.value.Value.{Value}
use Rattle.toml.proofs.Views.{get_item_within, items_view-drop}
use Rattle.sci_settings.specs.declared.misfits.Found.{Found}
use Rattle.sci_settings.specs.Settings.{IsFound, IsNoNumber, number_in, numbers_in, ◌>>=◌}

-- the numbers so far in front of those that are left
abbrev pub with_front : List ℕ → Option (List ℕ) → Option (List ℕ)
with_front front rest = option_map (λ ns. front ++ ns) rest

pub front_none : (o : Option (List ℕ)) → o ≡ with_front [] o
front_none None = refl
front_none (Some ns) = refl

push_front : (front : List ℕ) (n : ℕ) (o : Option (List ℕ)) → with_front front (o >>= λ ns. Some (n ∷ ns)) ≡ with_front (front ++ n ∷ []) o
push_front front n None = refl
push_front front n (Some ns) = ap Some (sym (append_assoc front (n ∷ []) ns))

number_more : (front : List ℕ) (n : ℕ) (d : Data) (ds : Items) → number_in d ≡ Some n → with_front front (numbers_in (item d ds)) ≡ with_front (front ++ n ∷ []) (numbers_in ds)
number_more front n d ds e = ap (λ (o : Option ℕ). with_front front (o >>= λ n. numbers_in ds >>= λ ns. Some (n ∷ ns))) e ∙ push_front front n (numbers_in ds)

no_number : (front : List ℕ) (d : Data) (ds : Items) → number_in d ≡ None → with_front front (numbers_in (item d ds)) ≡ None
no_number front d ds e = ap (λ (o : Option ℕ). with_front front (o >>= λ n. numbers_in ds >>= λ ns. Some (n ∷ ns))) e

pub item_more : (front : List ℕ) (n : ℕ) (vs : List Value) (i : ℕ) (v : Value) (all : Option (List ℕ)) → i < length vs → number_in (view (get_or vs i v)) ≡ Some n → all ≡ with_front front (numbers_in (items_view (drop i vs)))
    → all ≡ with_front (front ++ n ∷ []) (numbers_in (items_view (drop (i + 1) vs)))
item_more front n vs i v all less e so_far = so_far ∙ ap (λ (is : Items). with_front front (numbers_in is)) (items_view-drop vs i v less) ∙ number_more front n (view (get_or vs i v)) (items_view (drop (i + 1) vs)) e

pub item_bad : (front : List ℕ) (vs : List Value) (i : ℕ) (v : Value) (all : Option (List ℕ)) → i < length vs → number_in (view (get_or vs i v)) ≡ None → all ≡ with_front front (numbers_in (items_view (drop i vs))) → all ≡ None
item_bad front vs i v all less e so_far = so_far ∙ ap (λ (is : Items). with_front front (numbers_in is)) (items_view-drop vs i v less) ∙ no_number front (view (get_or vs i v)) (items_view (drop (i + 1) vs)) e

pub items_done : (front : List ℕ) (vs : List Value) (i : ℕ) (all : Option (List ℕ)) → length vs ≤ i → all ≡ with_front front (numbers_in (items_view (drop i vs))) → all ≡ Some front
items_done front vs i all full so_far = so_far ∙ ap (λ (ws : List Value). with_front front (numbers_in (items_view ws))) (drop_of_length-le vs full) ∙ ap Some (append-nil front)

-- the value at this index is no number
pub item_named : (vs : List Value) (i place : ℕ) (v : Value) (found : Found) → i < length vs → number_in (view (get_or vs i v)) ≡ None → place ≡ i + 1 → IsFound (Some (view (get_or vs i v))) found
    → IsNoNumber (Some (items_view vs)) place found
unfolding IsNoNumber
item_named vs i place v found less e at is = (i, at, view (get_or vs i v), sym (get_item_within vs i v less), e, is)

pub item_there : (there : Option Items) (items : Items) (place : ℕ) (found : Found) → IsNoNumber (Some items) place found → there ≡ Some items → IsNoNumber there place found
item_there there items place found none is = subst (λ (x : Option Items). IsNoNumber x place found) (sym is) none
