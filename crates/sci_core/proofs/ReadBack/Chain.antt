-- The chain of a line, from the law by ranks.
use Rattle.std.proofs.Common.{◌≡◌, ℕ, ◌<◌, Option, Some, None, List, [], ◌∷◌, All, refl, sym, subst, ap₂, arith}
use Rattle.std.proofs.lemmas.List.Elements.{All-nil, All-cons}
use Rattle.sci_core.specs.State.{State}
use Rattle.sci_core.specs.Shape.{shape}
use Rattle.sci_core.specs.Law.{Law, Witness, Below}
use Rattle.sci_core.specs.Chain.{IsPath, IsChain, forward}
use Rattle.sci_core.proofs.ReadBack.Ranked.{Stands}

below_along : (n : ℕ) (forw : ℕ → Option ℕ) → ((i j : ℕ) → forw i ≡ Some j → j < n) → (nodes : List ℕ) (f : Option ℕ) → ((j : ℕ) → f ≡ Some j → j < n) → IsPath f forw nodes → All (λ i. i < n) nodes
below_along n forw b [] f d e = All-nil (λ i. i < n)
below_along n forw b (x ∷ xs) f d e = All-cons (λ i. i < n) x xs (d x e.0) (below_along n forw b xs (forw x) (b x) e.1)

path_empty : (forw : ℕ → Option ℕ) (nodes : List ℕ) (f : Option ℕ) → f ≡ None → IsPath f forw nodes → nodes ≡ []
path_empty forw [] f h e = refl
path_empty forw (x ∷ xs) f h e = let q = e.0 in grind (arith, h, q)

empty_path : (forw : ℕ → Option ℕ) (nodes : List ℕ) (f : Option ℕ) → nodes ≡ [] → IsPath f forw nodes → f ≡ None
empty_path forw [] f h e = e
empty_path forw (x ∷ xs) f h e = absurd (grind (arith, h))

pub chain_of_law : (n : ℕ) (s : State) (g : Witness) (o : Law (shape s) g) (b : Below n (shape s)) (nodes : List ℕ) (p : IsPath s.memory.forw (forward s) nodes) → Stands g.rank nodes → IsChain n s nodes
chain_of_law n s g o b nodes p r = record {
  path = p;
  distinct = r.distinct;
  below = below_along n (forward s) b.forw nodes s.memory.forw b.head p;
  empty = ((λ h. path_empty (forward s) nodes s.memory.forw (o.mode.home h) p), (λ h. o.mode.not_home (empty_path (forward s) nodes s.memory.forw h p)));
}

-- a line has one chain
pub path_unique : (forw : ℕ → Option ℕ) (xs ys : List ℕ) (f : Option ℕ) → IsPath f forw xs → IsPath f forw ys → xs ≡ ys
path_unique forw [] [] f a b = refl
path_unique forw [] (y ∷ ys) f a b = let q = b.0 in absurd (grind (arith, a, q))
path_unique forw (x ∷ xs) [] f a b = let q = a.0 in absurd (grind (arith, q, b))
path_unique forw (x ∷ xs) (y ∷ ys) f a b =
    let p = a.0 in
    let q = b.0 in
    let e : x ≡ y = grind (arith, p, q) in
    ap₂ (λ (h : ℕ) (t : List ℕ). h ∷ t) e (path_unique forw xs ys (forw x) a.1 (subst (λ (z : ℕ). IsPath (forw z) forw ys) (sym e) b.1))
