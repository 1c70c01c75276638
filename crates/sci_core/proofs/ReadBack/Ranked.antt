-- The nodes along the forward links stand by falling rank, and are just those of rank above 0.
use Rattle.std.proofs.Common.{◌≡◌, ◌≢◌, ◌⊎◌, ℕ, zero, suc, ◌<◌, ◌≤◌, Option, Some, None, List, [], ◌∷◌, AllPairs, Contains, get_or, refl, sym, ap, ⊎_elim, inl, inr, arith}
use Rattle.std.proofs.lemmas.List.Elements.{Contains-get_or}
use Rattle.std.proofs.lemmas.List.Kept.{AllPairs-cons}
use Rattle.sci_core.specs.Law.{Order}
use Rattle.sci_core.specs.Chain.{IsPath, IsBehind}
use Rattle.sci_core.proofs.ReadBack.Elements.{contains_none, contains_head, contains_tail, contains_cases}

-- the nodes of rank above 0 up to the top, by falling rank
pub record Ranked (rank : ℕ → ℕ) (top : ℕ) (nodes : List ℕ) : Type 0 where
  pub holds : (i : ℕ) → 0 < rank i → rank i ≤ top → Contains nodes i
  pub inside : (i : ℕ) → Contains nodes i → 0 < rank i
  pub under : (i : ℕ) → Contains nodes i → rank i ≤ top
  pub falls : (a b : ℕ) → IsBehind nodes a b → rank b < rank a
  pub lies : (a b : ℕ) → IsBehind nodes a b → 0 < rank b
  pub behind : (a b : ℕ) → rank a ≤ top → 0 < rank b → rank b < rank a → IsBehind nodes a b
  pub distinct : AllPairs (λ i j. i ≢ j) nodes

-- the nodes of rank above 0, by falling rank
pub record Stands (rank : ℕ → ℕ) (nodes : List ℕ) : Type 0 where
  pub holds : (i : ℕ) → 0 < rank i → Contains nodes i
  pub inside : (i : ℕ) → Contains nodes i → 0 < rank i
  pub falls : (a b : ℕ) → IsBehind nodes a b → rank b < rank a
  pub lies : (a b : ℕ) → IsBehind nodes a b → 0 < rank b
  pub behind : (a b : ℕ) → 0 < rank b → rank b < rank a → IsBehind nodes a b
  pub distinct : AllPairs (λ i j. i ≢ j) nodes

ranked_none : (rank : ℕ → ℕ) (top : ℕ) → top ≡ 0 → Ranked rank top []
ranked_none rank top e = record {
  holds = λ i p l. absurd (omega arith);
  inside = λ i c. absurd (contains_none i c);
  under = λ i c. absurd (contains_none i c);
  falls = λ a b h. absurd h;
  lies = λ a b h. absurd h;
  behind = λ a b l p q. absurd (omega arith);
  distinct = λ i j d l m. absurd (omega arith);
}

ranked_more : (rank : ℕ → ℕ) (top below x : ℕ) (xs : List ℕ) → top ≡ rank x → 0 < rank x → below < rank x → ((i : ℕ) → 0 < rank i → rank i ≤ rank x → (i ≡ x) ⊎ (rank i ≤ below)) → Ranked rank below xs → Ranked rank top (x ∷ xs)
ranked_more rank top below x xs e p b split r = record {
  holds = λ i q l. ⊎_elim (λ m. rw m (contains_head x xs)) (λ m. contains_tail x xs i (r.holds i q m)) (split i q (omega arith));
  inside = λ i c. ⊎_elim (λ m. rw m p) (λ m. r.inside i m) (contains_cases x xs i c);
  under = λ i c. ⊎_elim (λ m. grind arith) (λ m. omega (arith, r.under i m)) (contains_cases x xs i c);
  falls = λ a c h. ⊎_elim (λ m. grind (arith, r.under c m.1)) (λ m. r.falls a c m) h;
  lies = λ a c h. ⊎_elim (λ m. r.inside c m.1) (λ m. r.lies a c m) h;
  behind = λ a c l q m. ⊎_elim (λ n. inl (sym n, r.holds c q (⊎_elim (λ u. absurd (grind arith)) (λ u. u) (split c q (grind arith))))) (λ n. inr (r.behind a c n q m)) (split a (omega arith) (omega arith));
  distinct = AllPairs-cons (λ i j. i ≢ j) x xs (λ k d l u. let m = r.under (get_or xs k d) (Contains-get_or xs k d l) in absurd (grind (arith, m))) r.distinct;
}

module _ (head : Option ℕ) (forw : ℕ → Option ℕ) (rank : ℕ → ℕ) (o : Order head forw rank) where
  -- the rank of the node that a link names
  top_of : Option ℕ → ℕ
  top_of None = 0
  top_of (Some i) = rank i

  top_below : (x : ℕ) (f : Option ℕ) → 0 < rank x → forw x ≡ f → top_of f < rank x
  unfolding top_of
  top_below x None p e = p
  top_below x (Some j) p e = o.next_below x j p e

  top_split : (x : ℕ) (f : Option ℕ) → 0 < rank x → forw x ≡ f → (i : ℕ) → 0 < rank i → rank i ≤ rank x → (i ≡ x) ⊎ (rank i ≤ top_of f)
  unfolding top_of
  top_split x None p e i q l = inl (grind (arith, o.apart i x, o.last x i))
  top_split x (Some j) p e i q l = grind (arith, o.apart i x, o.next_first x j i)

  walk : (nodes : List ℕ) (f : Option ℕ) → ((i : ℕ) → f ≡ Some i → 0 < rank i) → IsPath f forw nodes → Ranked rank (top_of f) nodes
  unfolding top_of
  walk [] f d e = ranked_none rank (top_of f) (ap top_of e)
  walk (x ∷ xs) f d e =
      let p = d x e.0 in
      ranked_more rank (top_of f) (top_of (forw x)) x xs (ap top_of e.0) p (top_below x (forw x) p refl) (top_split x (forw x) p refl) (walk xs (forw x) (λ j q. o.next_in x j p q) e.1)

  tops : (f : Option ℕ) → head ≡ f → (i : ℕ) → rank i ≤ top_of f
  unfolding top_of
  tops None e i = omega (arith, o.empty i e)
  tops (Some h) e i = o.head_top h i e

  pub stands : (nodes : List ℕ) → IsPath head forw nodes → Stands rank nodes
  unfolding top_of
  stands nodes e =
      let r = walk nodes head o.head_in e in
      let top = tops head refl in
      record { holds = λ i p. r.holds i p (top i); inside = r.inside; falls = r.falls; lies = r.lies; behind = λ a b. r.behind a b (top a); distinct = r.distinct }

  -- and there is such a list
  path_from : (k : ℕ) (f : Option ℕ) → ((i : ℕ) → f ≡ Some i → 0 < rank i) → top_of f ≤ k → (nodes : List ℕ) × IsPath f forw nodes
  unfolding top_of
  path_from k None d l = ([], refl)
  path_from zero (Some i) d l = absurd (omega (arith, d i refl))
  path_from (suc k) (Some i) d l =
      let p = d i refl in
      let r = path_from k (forw i) (λ j q. o.next_in i j p q) (omega (arith, top_below i (forw i) p refl)) in
      (i ∷ r.0, (refl, r.1))

  pub path : (nodes : List ℕ) × IsPath head forw nodes
  path = path_from (top_of head) head o.head_in (omega arith)
