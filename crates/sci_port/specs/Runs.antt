-- Runs: what all nodes did to one line, in one order, and what each of them did, with the places. E is what a node can do: on
-- a line whose steps are calls a call, on a line under a lock word a take, a miss or a give. This project's profile, after
-- Herlihy and Wing's linearizability.
use Rattle.std.specs.Prelude.{◌≡◌, ℕ, ◌+◌, cond, eqb, List, [], ◌∷◌}

-- the steps of the run, each of its node, one after another, lead from this point to that one
abbrev pub Leads : {P E : Type 0} → (P → ℕ → E → P → Type 0) → P → List (ℕ × E) → P → Type 0
Leads steps p [] q = q ≡ p
Leads {P} steps p (e ∷ es) q = (mid : P) × steps p e.0 e.1 mid × Leads steps mid es q

-- the steps of one node, each with its place, which is counted from this number on
abbrev pub done_from : {E : Type 0} → ℕ → ℕ → List (ℕ × E) → List (ℕ × E)
done_from place node [] = []
done_from place node (e ∷ es) = cond (eqb e.0 node) ((place, e.1) ∷ done_from (place + 1) node es) (done_from (place + 1) node es)

-- the steps of one node, each with its place in the run
abbrev pub done_by : {E : Type 0} → ℕ → List (ℕ × E) → List (ℕ × E)
done_by node run = done_from 0 node run

-- the list that is kept under this number
abbrev pub kept_under : {A : Type 0} → ℕ → List (ℕ × List A) → List A
kept_under i [] = []
kept_under i (k ∷ ks) = cond (eqb k.0 i) k.1 (kept_under i ks)

-- what a seat of this node keeps of the node i, by its own log, and by those of the seats that were joined to it
abbrev pub log_of : {A : Type 0} → ℕ → ℕ → List A → List (ℕ × List A) → List A
log_of i node log others = cond (eqb node i) log (kept_under i others)
