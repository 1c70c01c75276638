-- A walk along the forward links ends within as many entries as there are nodes.
use Rattle.std.proofs.Common.{◌≡◌, ◌≢◌, ℕ, ◌<◌, ◌≤◌, true, eqb, Option, Some, None, List, [], ◌∷◌, ◌++◌, length, All, AllPairs, Contains, sym, subst, arith, append_assoc, append-nil, length-append}
use Rattle.std.proofs.lemmas.Bool.Decides.{Decides-eqb, nat_tests}
use Rattle.std.proofs.lemmas.Map.Made.{IsDistinct-from_AllPairs}
use Rattle.std.proofs.lemmas.Map.Steps.{length-le_from_distinct_below}
use Rattle.std.proofs.lemmas.Map.Views.{Contains-from_any}
use Rattle.std.proofs.lemmas.List.Elements.{Contains-append_right}
use Rattle.sci_core.specs.State.{State}
use Rattle.sci_core.specs.Run.{IsLawfulLine}
use Rattle.sci_core.proofs.ReadBack.Elements.{contains_head}
use Rattle.sci_core.specs.Chain.{IsPath, IsChain, forward}

below_at : (xs : List ℕ) (n q : ℕ) → All (λ i. i < n) xs → Contains xs q → q < n
below_at xs n q below c = subst (λ (x : ℕ). x < n) c.2 (below c.0 q c.1)

same_number : (x y : ℕ) → eqb x y ≡ true → x ≡ y
same_number x y h = grind (arith, nat_tests)

-- nodes below n, each once, are at most n
pub few_nodes : (xs : List ℕ) (n : ℕ) → AllPairs (λ i j. i ≢ j) xs → All (λ i. i < n) xs → length xs ≤ n
few_nodes xs n distinct below =
    length-le_from_distinct_below xs n (IsDistinct-from_AllPairs Decides-eqb xs distinct)
    (λ q h. below_at xs n q below (Contains-from_any same_number q xs h))

-- the nodes so far, and those that are still to come
pub record Walk (n : ℕ) (s : State) (sofar : List ℕ) (next : Option ℕ) : Type 0 where
  pub rest : List ℕ
  pub path : IsPath next (forward s) rest
  pub whole : IsChain n s (sofar ++ rest)

pub walk_start : (n : ℕ) (fits : List ℕ → Type 0) (s : State) (sofar : List ℕ) (next : Option ℕ) → IsLawfulLine n fits s → sofar ≡ [] → next ≡ s.memory.forw → Walk n s sofar next
walk_start n fits s sofar next o e f =
    subst (λ (l : List ℕ). Walk n s l next) (sym e)
    (subst (λ (x : Option ℕ). Walk n s [] x) (sym f) record { rest = o.1.chain; path = o.1.lawful.chain.path; whole = o.1.lawful.chain })

further : (n : ℕ) (s : State) (sofar : List ℕ) (x : ℕ) (rest : List ℕ) → IsPath (Some x) (forward s) rest → IsChain n s (sofar ++ rest) → Walk n s (sofar ++ x ∷ []) (s.tags x).forw
further n s sofar x [] path whole = absurd (cc)
further n s sofar x (y ∷ ys) path whole =
    let first : Some x ≡ Some y = path.0 in
    let same : y ≡ x = cc in
    subst (λ (z : ℕ). Walk n s (sofar ++ z ∷ []) (s.tags z).forw) same
    record { rest = ys; path = path.1; whole = subst (λ (l : List ℕ). IsChain n s l) (sym (append_assoc sofar (y ∷ []) ys)) whole }

pub walk_more : (n : ℕ) (s : State) (sofar : List ℕ) (x : ℕ) → Walk n s sofar (Some x) → Walk n s (sofar ++ x ∷ []) (s.tags x).forw
walk_more n s sofar x w = further n s sofar x w.rest w.path w.whole

short : (n : ℕ) (s : State) (sofar : List ℕ) (x : ℕ) (rest : List ℕ) → IsPath (Some x) (forward s) rest → IsChain n s (sofar ++ rest) → length sofar < n
short n s sofar x [] path whole = absurd (cc)
short n s sofar x (y ∷ ys) path whole = omega (arith, few_nodes (sofar ++ y ∷ ys) n whole.distinct whole.below, length-append sofar (y ∷ ys))

pub walk_short : (n : ℕ) (s : State) (sofar : List ℕ) (x : ℕ) → Walk n s sofar (Some x) → length sofar < n
walk_short n s sofar x w = short n s sofar x w.rest w.path w.whole

inside : (n : ℕ) (s : State) (sofar : List ℕ) (x : ℕ) (rest : List ℕ) → IsPath (Some x) (forward s) rest → IsChain n s (sofar ++ rest) → x < n
inside n s sofar x [] path whole = absurd (cc)
inside n s sofar x (y ∷ ys) path whole =
    let first : Some x ≡ Some y = path.0 in
    let same : y ≡ x = cc in
    subst (λ (z : ℕ). z < n) same (below_at (sofar ++ y ∷ ys) n y whole.below (Contains-append_right sofar (y ∷ ys) y (contains_head y ys)))

-- the next node is one of the line's
pub walk_below : (n : ℕ) (s : State) (sofar : List ℕ) (x : ℕ) → Walk n s sofar (Some x) → x < n
walk_below n s sofar x w = inside n s sofar x w.rest w.path w.whole

ended : (n : ℕ) (s : State) (sofar rest : List ℕ) → IsPath None (forward s) rest → IsChain n s (sofar ++ rest) → IsChain n s sofar
ended n s sofar [] path whole = subst (λ (l : List ℕ). IsChain n s l) (append-nil sofar) whole
ended n s sofar (y ∷ ys) path whole = absurd (cc)

pub walk_end : (n : ℕ) (s : State) (sofar : List ℕ) → Walk n s sofar None → IsChain n s sofar
walk_end n s sofar w = ended n s sofar w.rest w.path w.whole
