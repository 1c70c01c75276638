-- The chain is fronts and then body entries.
use Rattle.std.proofs.Common.{◌≡◌, ◌⊎◌, ℕ, ◌<◌, true, Option, Some, None, List, [], ◌∷◌, ◌++◌, All, Contains, refl, sym, ap, inl, inr, ⊎_elim, ◌∙◌, arith}
use Rattle.std.proofs.lemmas.Bool.{cases_lt}
use Rattle.std.proofs.lemmas.List.Elements.{All-nil, All-cons}
use Rattle.sci_words.specs.declared.tags.Kind.{Kind}
use Rattle.sci_core.specs.declared.pending.Pending.{Pending}
use Rattle.sci_core.specs.State.{State}
use Rattle.sci_core.specs.Shape.{Phase, shape, phase_of, kept_of}
use Rattle.sci_core.specs.Law.{Law, Witness, suits, waits, has_attached, keeps_forw, purges}
use Rattle.sci_core.specs.Chain.{IsPath, forward}
use Rattle.sci_core.specs.Fronts.{IsFrontWord, IsBodyWord, IsAdvancing, IsPurgedByFront, IsFrontsThenBody}
use Rattle.sci_core.proofs.ReadBack.Ranked.{Stands}
use Rattle.sci_core.proofs.ReadBack.LastFront.{front_word, body_word, last_front_is, is_last_front, waiting_above}

-- what an advancing step says, both ways
pub advancing : (p : Pending) (i : ℕ) → phase_of p ≡ Phase.Advancing → kept_of p ≡ Some i → IsAdvancing p i
advancing (Pending.Advancing l v w) i h k = grind (arith, k)
advancing _ i h k = absurd (grind (arith, h))

advancing_purges : (p : Pending) (i : ℕ) → IsAdvancing p i → purges (phase_of p) ≡ true
advancing_purges (Pending.Advancing l v w) i h = refl
advancing_purges _ i h = absurd h

advancing_kept : (p : Pending) (i : ℕ) → IsAdvancing p i → kept_of p ≡ Some i
advancing_kept (Pending.Advancing l v w) i h = rw h refl
advancing_kept _ i h = absurd h

cases_waits : (p : Phase) (k : Kind) → suits p k ≡ true → waits p ≡ true → ((k ≡ Kind.Queued) × ((p ≡ Phase.Fetching) ⊎ (p ≡ Phase.InQueue))) ⊎ ((k ≡ Kind.Leaving) × (p ≡ Phase.Promoted))
cases_waits p k h w = grind (arith, h, w)

cases_attached : (p : Phase) → has_attached p ≡ true → (p ≡ Phase.Copying) ⊎ (p ≡ Phase.Ready)
cases_attached p h = grind (arith, h)

advancing_keeps_forw : (p : Phase) → p ≡ Phase.Advancing → keeps_forw p ≡ true
advancing_keeps_forw p e = rw e refl

module _ (s : State) (g : Witness) (o : Law (shape s) g) (nodes : List ℕ) (r : Stands g.rank nodes) where
  abbrev Front : ℕ → Type 0
  Front i = IsFrontWord (s.tags i)

  abbrev Body : ℕ → Type 0
  Body i = IsBodyWord (s.tags i)

  bodies : (xs : List ℕ) (f : Option ℕ) → ((i : ℕ) → f ≡ Some i → 0 < g.rank i) → ((i : ℕ) → f ≡ Some i → g.rank i < g.rank g.last_front) → IsPath f (forward s) xs → All Body xs
  bodies [] f d l e = All-nil Body
  bodies (x ∷ xs) f d l e =
      let p = d x e.0 in
      let q = l x e.0 in
      All-cons Body x xs (body_word s g o nodes r x p q) (bodies xs (s.tags x).forw (λ j h. o.order.next_in x j p h) (λ j h. let c = o.order.next_below x j p h in omega (arith, c, q)) e.1)

  abbrev Split : List ℕ → Type 0
  Split xs = (fronts : List ℕ) × (body : List ℕ) × (xs ≡ fronts ++ body) × All Front fronts × All Body body

  split : (xs : List ℕ) (f : Option ℕ) → ((i : ℕ) → f ≡ Some i → 0 < g.rank i) → IsPath f (forward s) xs → Split xs
  split [] f d e = ([], [], refl, All-nil Front, All-nil Body)
  split (x ∷ xs) f d e =
      let p = d x e.0 in
      ⊎_elim
      (λ l. ([], x ∷ xs, refl, All-nil Front, bodies (x ∷ xs) f d (λ i h. let q = e.0 in grind (arith, h, q, l)) e))
      (λ l. let t = split xs (s.tags x).forw (λ j h. o.order.next_in x j p h) e.1 in (x ∷ t.0, t.1, ap (λ (ys : List ℕ). x ∷ ys) t.2, All-cons Front x t.0 (front_word s g o nodes r x p l) t.3, t.4))
      (cases_lt (g.rank x) (g.rank g.last_front))

  parts : (xs : List ℕ) → IsPath s.memory.forw (forward s) xs → (fronts : List ℕ) × (body : List ℕ) × (xs ≡ fronts ++ body) × All Front fronts × All Body body × (fronts ≡ [] → xs ≡ [])
  parts [] e = ([], [], refl, All-nil Front, All-nil Body, λ h. refl)
  parts (x ∷ xs) e =
      let p = o.order.head_in x e.0 in
      let l = o.order.head_top x g.last_front e.0 in
      let t = split xs (s.tags x).forw (λ j h. o.order.next_in x j p h) e.1 in
      (x ∷ t.0, t.1, ap (λ (ys : List ℕ). x ∷ ys) t.2, All-cons Front x t.0 (front_word s g o nodes r x p l) t.3, t.4, λ h. absurd (grind (arith, h)))

  queued : (f : Option ℕ) → (s.tags g.last_front).forw ≡ f → 0 < g.rank g.last_front → (s.tags g.last_front).kind ≡ Kind.Queued → (phase_of (s.steps g.last_front) ≡ Phase.Copying) ⊎ (phase_of (s.steps g.last_front) ≡ Phase.Ready) ⊎ (f ≡ None)
  queued None e p k = inr (inr refl)
  queued (Some j) e p k = ⊎_elim (λ a. inl a) (λ a. inr (inl a)) (cases_attached (phase_of (s.steps g.last_front)) (o.fronts.attached j p k e))

  purged_by : (i : ℕ) → Contains nodes i → (s.tags i).kind ≡ Kind.Purged → IsPurgedByFront s nodes i
  purged_by i c k =
      let p = r.inside i c in
      let e = o.fronts.purged i p k in
      let n = o.fronts.purged_next i p k in
      let m = o.own.as_kept g.last_front (advancing_keeps_forw (phase_of (s.steps g.last_front)) e) in
      (g.last_front, is_last_front s g o nodes r i p, n, advancing (s.steps g.last_front) i e (sym m ∙ n))

  is_purged : (i : ℕ) → IsPurgedByFront s nodes i → (s.tags i).kind ≡ Kind.Purged
  is_purged i h = o.words.victim h.0 i (advancing_purges (s.steps h.0) i h.3) (advancing_kept (s.steps h.0) i h.3)

  pub fronts_of_law : IsPath s.memory.forw (forward s) nodes → IsFrontsThenBody s nodes
  fronts_of_law path = record {
    parts = parts nodes path;
    waiting = λ i h. cases_waits (phase_of (s.steps i)) (s.tags i).kind (o.own.suited i) (o.fronts.queue i (waiting_above s g o nodes r i h));
    queued = λ i l k. let e = last_front_is s g o nodes r i l in rw e (queued (s.tags g.last_front).forw refl (rw (sym e) (r.inside i l.0)) (rw (sym e) k));
    leaving = λ i l k. let e = last_front_is s g o nodes r i l in rw e (o.fronts.leaves (rw (sym e) (r.inside i l.0)) (rw (sym e) k));
    purged = λ i c. (purged_by i c, is_purged i);
  }
