-- Walking along the forward links.
use Rattle.std.proofs.Common.{◌≡◌, ◌≢◌, ℕ, zero, suc, ◌+◌, ◌<◌, ◌≤◌, Option, Some, None, List, [], ◌∷◌, ◌++◌, length, get_or, drop, All, AllPairs, Contains, refl, sym, ap, ap₂, ◌∙◌, subst, arith, append-nil, length-append, length-drop, inl, inr}
use Rattle.std.proofs.lemmas.List.Elements.{All-nil, All-push, Contains-append_right, Contains-push_cases}
use Rattle.std.proofs.lemmas.List.Kept.{AllPairs-cons}
use Rattle.sci_words.specs.declared.memory.Mem.{Mem}
use Rattle.sci_words.specs.declared.tags.Tag.{Tag}
use Rattle.sci_core.specs.Chain.{IsPath}
use Rattle.sci_core.specs.Exact.{IsEnding}
use Rattle.sci_core.proofs.Walking.{few_nodes}
use Rattle.sci_core.proofs.ReadBack.Chain.{path_unique}
use Rattle.sci_core.proofs.ReadBack.Elements.{contains_none, contains_head}

-- from a link along these nodes to the next link
abbrev pub IsWalk : Option ℕ → (ℕ → Option ℕ) → List ℕ → Option ℕ → Type 0
IsWalk from forw [] next = from ≡ next
IsWalk from forw (x ∷ xs) next = (from ≡ Some x) × IsWalk (forw x) forw xs next

pub walk_push : (forw : ℕ → Option ℕ) (front : List ℕ) (from : Option ℕ) (x : ℕ) → IsWalk from forw front (Some x) → IsWalk from forw (front ++ x ∷ []) (forw x)
walk_push forw [] from x w = (w, refl)
walk_push forw (y ∷ ys) from x w = (w.0, walk_push forw ys (forw y) x w.1)

walk_path : (forw : ℕ → Option ℕ) (front : List ℕ) (from : Option ℕ) → IsWalk from forw front None → IsPath from forw front
walk_path forw [] from w = w
walk_path forw (y ∷ ys) from w = (w.0, walk_path forw ys (forw y) w.1)

one_link : (f : Option ℕ) (x y : ℕ) → f ≡ Some x → f ≡ Some y → x ≡ y
one_link f x y p q = grind (arith, p, q)

no_link : (f : Option ℕ) (x : ℕ) → f ≡ Some x → f ≡ None → ⊥
no_link f x p q = grind (arith, p, q)

-- a path goes on where a walk along it ends
record Rest (forw : ℕ → Option ℕ) (front : List ℕ) (next : Option ℕ) (nodes : List ℕ) : Type 0 where
  rest : List ℕ
  path : IsPath next forw rest
  whole : nodes ≡ front ++ rest

walk_rest : (forw : ℕ → Option ℕ) (front : List ℕ) (from next : Option ℕ) (nodes : List ℕ) → IsWalk from forw front next → IsPath from forw nodes → Rest forw front next nodes
walk_rest forw [] from next nodes w p = record { rest = nodes; path = subst (λ (f : Option ℕ). IsPath f forw nodes) w p; whole = refl }
walk_rest forw (y ∷ ys) from next [] w p = absurd (no_link from y w.0 p)
walk_rest forw (y ∷ ys) from next (z ∷ zs) w p =
    let e : z ≡ y = one_link from z y p.0 w.0 in
    let r = walk_rest forw ys (forw y) next zs w.1 (subst (λ (n : ℕ). IsPath (forw n) forw zs) e p.1) in
    record { rest = r.rest; path = r.path; whole = ap₂ (λ (h : ℕ) (t : List ℕ). h ∷ t) e r.whole }

-- the path from one of its nodes on
path_at : (forw : ℕ → Option ℕ) (nodes : List ℕ) (from : Option ℕ) (k d : ℕ) → k < length nodes → IsPath from forw nodes → IsPath (Some (get_or nodes k d)) forw (drop k nodes)
path_at forw [] from k d lt p = absurd (omega arith)
path_at forw (y ∷ ys) from zero d lt p = (refl, p.1)
path_at forw (y ∷ ys) from (suc k) d lt p = path_at forw ys (forw y) k d (omega arith) p.1

-- a path that ends has each node once
path_distinct : (forw : ℕ → Option ℕ) (nodes : List ℕ) (from : Option ℕ) → IsPath from forw nodes → AllPairs (λ i j. i ≢ j) nodes
path_distinct forw [] from p = λ i j d l m. absurd (omega arith)
path_distinct forw (x ∷ xs) from p =
    AllPairs-cons (λ i j. i ≢ j) x xs
    (λ k d lt e.
    let again : IsPath (Some x) forw (drop k xs) = subst (λ (y : ℕ). IsPath (Some y) forw (drop k xs)) (sym e) (path_at forw xs (forw x) k d lt p.1) in
    let same : x ∷ xs ≡ drop k xs = path_unique forw (x ∷ xs) (drop k xs) (Some x) (refl, p.1) again in
    let len = ap length same in
    absurd (omega (arith, len, length-drop k xs)))
    (path_distinct forw xs (forw x) p.1)

-- where the walk has come after k nodes, all below n
pub record Walked (n : ℕ) (forw : ℕ → Option ℕ) (from : Option ℕ) (k : ℕ) (next : Option ℕ) : Type 0 where
  pub front : List ℕ
  pub long : length front ≡ k
  pub walk : IsWalk from forw front next
  pub below : All (λ i. i < n) front

pub walked_start : (n : ℕ) (forw : ℕ → Option ℕ) (from : Option ℕ) → Walked n forw from 0 from
walked_start n forw from = record { front = []; long = refl; walk = refl; below = All-nil (λ i. i < n) }

pub walked_more : (n : ℕ) (forw : ℕ → Option ℕ) (from : Option ℕ) (k x : ℕ) → Walked n forw from k (Some x) → x < n → Walked n forw from (k + 1) (forw x)
walked_more n forw from k x w lt = record {
  front = w.front ++ x ∷ [];
  long = omega (arith, length-append w.front (x ∷ []), w.long);
  walk = walk_push forw w.front from x w.walk;
  below = All-push (λ i. i < n) w.front x w.below lt;
}

pub walked_end : (n : ℕ) (mem : Mem) (tags : ℕ → Tag) (k : ℕ) → Walked n (λ i. (tags i).forw) mem.forw k None → (nodes : List ℕ) × IsEnding n mem tags nodes
walked_end n mem tags k w =
    let p = walk_path (λ i. (tags i).forw) w.front mem.forw w.walk in
    (w.front, record { path = p; distinct = path_distinct (λ i. (tags i).forw) w.front mem.forw p; below = w.below })

goes_on : (forw : ℕ → Option ℕ) (x : ℕ) (rest : List ℕ) → IsPath (Some x) forw rest → (more : List ℕ) × (rest ≡ x ∷ more)
goes_on forw x [] p = absurd (no_link (Some x) x refl p)
goes_on forw x (y ∷ ys) p = (ys, ap (λ (h : ℕ). h ∷ ys) (one_link (Some x) y x p.0 refl))

below_at : (xs : List ℕ) (n q : ℕ) → All (λ i. i < n) xs → Contains xs q → q < n
below_at xs n q below c = subst (λ (x : ℕ). x < n) c.2 (below c.0 q c.1)

-- the next node of a walk is on the path
on_path : (forw : ℕ → Option ℕ) (front : List ℕ) (from : Option ℕ) (x : ℕ) (nodes : List ℕ) → IsWalk from forw front (Some x) → IsPath from forw nodes → Contains nodes x
on_path forw front from x nodes w p =
    let r = walk_rest forw front from (Some x) nodes w p in
    let g = goes_on forw x r.rest r.path in
    subst (λ (l : List ℕ). Contains l x) (sym (r.whole ∙ ap (λ (l : List ℕ). front ++ l) g.1)) (Contains-append_right front (x ∷ g.0) x (contains_head x g.0))

pub walked_out : (n : ℕ) (mem : Mem) (tags : ℕ → Tag) (k x : ℕ) → Walked n (λ i. (tags i).forw) mem.forw k (Some x) → n ≤ x → (nodes : List ℕ) → IsEnding n mem tags nodes → ⊥
walked_out n mem tags k x w le nodes e =
    let lt = below_at nodes n x e.below (on_path (λ i. (tags i).forw) w.front mem.forw x nodes w.walk e.path) in
    omega (arith, lt, le)

pub walked_long : (n : ℕ) (mem : Mem) (tags : ℕ → Tag) (k x : ℕ) → n ≤ k → Walked n (λ i. (tags i).forw) mem.forw k (Some x) → (nodes : List ℕ) → IsEnding n mem tags nodes → ⊥
walked_long n mem tags k x le w nodes e =
    let r = walk_rest (λ i. (tags i).forw) w.front mem.forw (Some x) nodes w.walk e.path in
    let g = goes_on (λ i. (tags i).forw) x r.rest r.path in
    let len = ap length (r.whole ∙ ap (λ (l : List ℕ). w.front ++ l) g.1) in
    omega (arith, le, len, length-append w.front (x ∷ g.0), w.long, few_nodes nodes n e.distinct e.below)

no_more : (rest : List ℕ) → length rest ≤ 0 → rest ≡ []
no_more [] h = refl
no_more (x ∷ xs) h = absurd (omega arith)

-- a walk that ends, and one along as many nodes as there are, has the whole chain
pub walk_ended : (forw : ℕ → Option ℕ) (front : List ℕ) (from : Option ℕ) (nodes : List ℕ) → IsWalk from forw front None → IsPath from forw nodes → nodes ≡ front
walk_ended forw front from nodes w p = path_unique forw nodes front from p (walk_path forw front from w)

pub walk_full : (n : ℕ) (mem : Mem) (tags : ℕ → Tag) (front : List ℕ) (next : Option ℕ) (nodes : List ℕ) → n ≤ length front → IsWalk mem.forw (λ i. (tags i).forw) front next → IsEnding n mem tags nodes → nodes ≡ front
walk_full n mem tags front next nodes le w e =
    let r = walk_rest (λ i. (tags i).forw) front mem.forw next nodes w e.path in
    let len = ap length r.whole in
    let none : r.rest ≡ [] = no_more r.rest (omega (arith, le, len, length-append front r.rest, few_nodes nodes n e.distinct e.below)) in
    r.whole ∙ (ap (λ (l : List ℕ). front ++ l) none ∙ append-nil front)

-- where the walk has come after k nodes, none of which is the one that is looked for
pub record Sought (forw : ℕ → Option ℕ) (from : Option ℕ) (wanted k : ℕ) (next : Option ℕ) : Type 0 where
  pub front : List ℕ
  pub long : length front ≡ k
  pub walk : IsWalk from forw front next
  pub without : Contains front wanted → ⊥

pub sought_start : (forw : ℕ → Option ℕ) (from : Option ℕ) (wanted : ℕ) → Sought forw from wanted 0 from
sought_start forw from wanted = record { front = []; long = refl; walk = refl; without = contains_none wanted }

pub sought_more : (forw : ℕ → Option ℕ) (from : Option ℕ) (wanted k x : ℕ) → Sought forw from wanted k (Some x) → x ≢ wanted → Sought forw from wanted (k + 1) (forw x)
sought_more forw from wanted k x w other = record {
  front = w.front ++ x ∷ [];
  long = omega (arith, length-append w.front (x ∷ []), w.long);
  walk = walk_push forw w.front from x w.walk;
  without = λ c. elim (Contains-push_cases w.front x wanted c) [ inl h ↦ w.without h | inr e ↦ other e ];
}

pub sought_found : (forw : ℕ → Option ℕ) (from : Option ℕ) (wanted k x : ℕ) (nodes : List ℕ) → Sought forw from wanted k (Some x) → x ≡ wanted → IsPath from forw nodes → Contains nodes wanted
sought_found forw from wanted k x nodes w e p = subst (λ (q : ℕ). Contains nodes q) e (on_path forw w.front from x nodes w.walk p)

pub sought_end : (forw : ℕ → Option ℕ) (from : Option ℕ) (wanted k : ℕ) (nodes : List ℕ) → Sought forw from wanted k None → IsPath from forw nodes → Contains nodes wanted → ⊥
sought_end forw from wanted k nodes w p c =
    let same : nodes ≡ w.front = walk_ended forw w.front from nodes w.walk p in
    w.without (subst (λ (l : List ℕ). Contains l wanted) same c)

pub sought_long : (n : ℕ) (mem : Mem) (tags : ℕ → Tag) (wanted k : ℕ) (next : Option ℕ) (nodes : List ℕ) → n ≤ k → Sought (λ i. (tags i).forw) mem.forw wanted k next → IsEnding n mem tags nodes → Contains nodes wanted → ⊥
sought_long n mem tags wanted k next nodes le w e c =
    let same : nodes ≡ w.front = walk_full n mem tags w.front next nodes (omega (arith, le, w.long)) w.walk e in
    w.without (subst (λ (l : List ℕ). Contains l wanted) same c)
