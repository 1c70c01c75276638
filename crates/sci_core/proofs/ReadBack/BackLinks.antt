-- The back links of the chain.
use Rattle.std.proofs.Common.{◌≡◌, ◌⊎◌, ◌≢◌, ℕ, ◌<◌, true, Option, Some, None, List, refl, sym, inl, inr, ⊎_elim, arith}
use Rattle.std.proofs.lemmas.Bool.Decides.{nat_tests}
use Rattle.std.proofs.lemmas.Bool.{cases_eq}
use Rattle.sci_words.specs.declared.tags.Kind.{Kind}
use Rattle.sci_core.specs.State.{State}
use Rattle.sci_core.specs.Shape.{shape}
use Rattle.sci_core.specs.Law.{Law, Witness, is_body}
use Rattle.sci_core.specs.BackLinks.{HasBackLinks}
use Rattle.sci_core.proofs.ReadBack.Ranked.{Stands}
use Rattle.sci_core.proofs.ReadBack.LastFront.{is_last_front}

module _ (s : State) (g : Witness) (o : Law (shape s) g) where
  -- of neighbours a, b with b in the body, b's back link is a, unless a is in Roll or Purging
  back_is_before : (a b j : ℕ) → 0 < g.rank a → (s.tags a).forw ≡ Some b → is_body (s.tags b).kind ≡ true → (s.tags b).back ≡ Some j → (s.tags a).kind ≢ Kind.Roll → (s.tags a).kind ≢ Kind.Purging → j ≡ a
  back_is_before a b j p e k bj r q =
      let pb = o.order.next_in a b p e in
      let lb = o.order.next_below a b p e in
      let c0 = o.order.next_first a b j p e in
      let c1 = o.order.apart a j p in
      let c2 = o.backs.skip_roll b j a pb bj lb in
      let c3 = o.backs.skip_roll_out b j a pb bj lb in
      let c4 = o.backs.known_in b j pb bj in
      let c5 = o.backs.known b j pb bj in
      let c6 = o.backs.ahead b j pb bj in
      let c7 = o.order.next_first a b g.last_front p e in
      let c8 = o.fronts.front b pb in
      let c9 = o.order.apart a g.last_front p in
      let d0 = o.fronts.last_front_in a p in
      let o : ℕ = 0 in
      grind (arith, nat_tests, c0, c1, c2, c3, c4, c5, c6, c7, c8, c9, d0)

  -- behind an entry a in Roll, b's back link is a or a's, unless a is the first body entry and the last front is Purging
  back_is_skipped : (a b j : ℕ) → 0 < g.rank a → (s.tags a).forw ≡ Some b → (s.tags a).kind ≡ Kind.Roll → (s.tags b).back ≡ Some j → ((s.tags g.last_front).kind ≡ Kind.Purging → (s.tags g.last_front).forw ≡ Some a → ⊥) → (j ≡ a → ⊥) → (s.tags a).back ≡ Some j
  back_is_skipped a b j p e r bj u n =
      let pb = o.order.next_in a b p e in
      let lb = o.order.next_below a b p e in
      let c0 = o.order.next_first a b j p e in
      let c1 = o.order.apart a j p in
      let c2 = o.backs.skip_back b j a pb bj lb in
      let c3 = o.backs.skip_stale b j a pb bj lb in
      let c10 = o.backs.skip_stale_out b j a pb bj lb in
      let c4 = o.backs.known_in b j pb bj in
      let c5 = o.backs.known b j pb bj in
      let c6 = o.backs.ahead b j pb bj in
      let c8 = o.fronts.front a p in
      let o : ℕ = 0 in
      grind (arith, nat_tests, c0, c1, c2, c3, c10, c4, c5, c6, c8)

  -- an entry behind one in Roll has a back link
  behind_roll_body : (a b : ℕ) → 0 < g.rank a → (s.tags a).forw ≡ Some b → (s.tags a).kind ≡ Kind.Roll → (s.tags b).back ≢ None
  behind_roll_body a b p e k =
      let pb = o.order.next_in a b p e in
      let lb = o.order.next_below a b p e in
      let c0 = o.fronts.front a p in
      let c1 = o.fronts.body b pb in
      let c2 = o.own.body_back b in
      let o : ℕ = 0 in
      grind (arith, nat_tests, c0, c1, c2)

  neighbour : (a b : ℕ) (f : Option ℕ) → (s.tags b).back ≡ f → 0 < g.rank a → (s.tags a).forw ≡ Some b → is_body (s.tags b).kind ≡ true → (s.tags a).kind ≢ Kind.Roll → (s.tags a).kind ≢ Kind.Purging → f ≡ Some a
  neighbour a b None e p n k r q = absurd (o.own.body_back b k e)
  neighbour a b (Some j) e p n k r q = let h = back_is_before a b j p n k e r q in rw h refl

  behind_roll : (a b : ℕ) (f : Option ℕ) → (s.tags b).back ≡ f → 0 < g.rank a → (s.tags a).forw ≡ Some b → (s.tags a).kind ≡ Kind.Roll → ((s.tags g.last_front).kind ≡ Kind.Purging → (s.tags g.last_front).forw ≡ Some a → ⊥) → (f ≡ Some a) ⊎ (f ≡ (s.tags a).back)
  behind_roll a b None e p n k u = absurd (behind_roll_body a b p n k e)
  behind_roll a b (Some j) e p n k u = ⊎_elim (λ h. inl (rw h refl)) (λ h. inr (sym (back_is_skipped a b j p n k e u h))) (cases_eq j a)

  pub back_links_of_law : (nodes : List ℕ) → Stands g.rank nodes → HasBackLinks s nodes
  back_links_of_law nodes r = record {
    neighbour = λ a b h. neighbour a b (s.tags b).back refl (r.inside a h.0) h.1;
    behind_roll = λ a b h k u. let p = r.inside a h.0 in behind_roll a b (s.tags b).back refl p h.1 k (λ q f. u (g.last_front, is_last_front s g o nodes r a p, f, q));
    itself = λ a h e. let p = r.inside a h in let c = o.backs.ahead a a p e p in omega (arith, c);
    behind = λ a b h e. let l = r.falls a b h in let q = r.lies a b h in let c = o.backs.ahead a b (omega (arith, l)) e q in omega (arith, c, l);
    parting = λ a b h e. o.backs.parting a b (r.inside a h) e;
  }
