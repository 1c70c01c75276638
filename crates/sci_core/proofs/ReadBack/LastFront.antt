-- The last front of the chain is the one that the law by ranks knows.
use Rattle.std.proofs.Common.{◌≡◌, ℕ, ◌<◌, ◌≤◌, true, Option, Some, None, List, Contains, refl, arith}
use Rattle.sci_words.specs.declared.tags.Kind.{Kind}
use Rattle.sci_core.specs.State.{State}
use Rattle.sci_core.specs.Shape.{shape}
use Rattle.sci_core.specs.Law.{Law, Witness, is_front, is_body}
use Rattle.sci_core.specs.Fronts.{IsFrontWord, IsBodyWord, IsLastFront, IsWaitingFront}
use Rattle.sci_core.proofs.ReadBack.Ranked.{Stands}

pub not_both : (k : Kind) → is_front k ≡ true → is_body k ≡ true → ⊥
not_both k f b = grind (arith, f, b)

module _ (s : State) (g : Witness) (o : Law (shape s) g) (nodes : List ℕ) (r : Stands g.rank nodes) where
  pub front_word : (i : ℕ) → 0 < g.rank i → g.rank g.last_front ≤ g.rank i → IsFrontWord (s.tags i)
  front_word i p l = let k = o.fronts.front i p l in (k, o.own.front_back i k)

  pub body_word : (i : ℕ) → 0 < g.rank i → g.rank i < g.rank g.last_front → IsBodyWord (s.tags i)
  body_word i p l = let k = o.fronts.body i p l in (k, o.own.body_back i k)

  pub front_rank : (i : ℕ) → Contains nodes i → is_front (s.tags i).kind ≡ true → g.rank g.last_front ≤ g.rank i
  front_rank i c f =
      let b = o.fronts.body i (r.inside i c) in
      let n = not_both (s.tags i).kind f in
      let o : ℕ = 0 in let r : ℕ = 0 in
      grind (arith, b, n)

  above_front : (i : ℕ) (f : Option ℕ) → (s.tags i).forw ≡ f → 0 < g.rank i → g.rank g.last_front < g.rank i → (j : ℕ) × ((s.tags i).forw ≡ Some j) × IsFrontWord (s.tags j)
  above_front i None e p l = absurd (let a = o.order.last i g.last_front p e l in let c = o.fronts.last_front_in i p in omega (arith, a, c))
  above_front i (Some j) e p l = (j, e, front_word j (o.order.next_in i j p e) (o.order.next_first i j g.last_front p e l))

  pub last_front_is : (i : ℕ) → IsLastFront s nodes i → i ≡ g.last_front
  last_front_is i h =
      let p = r.inside i h.0 in
      let low = front_rank i h.0 h.1.0 in
      let high : g.rank g.last_front < g.rank i → ⊥ = λ l. let a = above_front i (s.tags i).forw refl p l in not_both (s.tags a.0).kind a.2.0 (h.2 a.0 a.1).0 in
      o.order.apart i g.last_front p (let o : ℕ = 0 in let r : ℕ = 0 in grind (arith, low, high))

  pub is_last_front : (i : ℕ) → 0 < g.rank i → IsLastFront s nodes g.last_front
  is_last_front i p =
      let q = o.fronts.last_front_in i p in
      (r.holds g.last_front q, front_word g.last_front q (omega arith), λ j e. body_word j (o.order.next_in g.last_front j q e) (o.order.next_below g.last_front j q e))

  pub waiting_above : (i : ℕ) → IsWaitingFront s nodes i → g.rank g.last_front < g.rank i
  waiting_above i h =
      let p = r.inside i h.0 in
      let j = h.1.0 in
      let a = o.order.next_below i j p h.1.1 in
      let b = front_rank j (r.holds j (o.order.next_in i j p h.1.1)) h.1.2.0 in
      omega (arith, a, b)
