-- Calls that end one after another.
use Rattle.std.proofs.Common.{◌≡◌, ◌+◌, ◌<◌, ◌≤◌, ℕ, zero, suc, Bool, false, List, Option, None, length, get_or, set, is_some, ⊎_elim, refl, sym, ap, subst, ◌∙◌, arith}
use Rattle.std.proofs.lemmas.Bool.{cases_eq}
use Rattle.std.proofs.lemmas.List.{get_or-set_same, get_or-set_other}
use Rattle.sci_ops.specs.declared.answers.Answer.{Answer}
use Rattle.sci_cache.specs.Nodes.{NodeState}
use Rattle.sci_script.specs.Resting.{EndsIfOpen, EndsCalls}
use Rattle.sci_script.specs.Shared.{Shared, shared_is_open}

-- an answer at a place behind changes none before
kept : (m k : ℕ) (s : Shared) (turns : ℕ) (answers : List (Option Answer)) (a : Option Answer) (t : Shared) → m ≤ k → EndsCalls m s turns answers t → EndsCalls m s turns (set answers k a) t
kept zero k s turns answers a t le h = h
kept (suc m) k s turns answers a t le h = (
  h.0,
  h.1,
  h.2,
  h.3,
  kept m k s h.1 answers a h.0 (omega (arith, le)) h.4,
  subst (λ (x : Option Answer). EndsIfOpen (shared_is_open h.0 m) m h.0 h.2 x t) (sym (get_or-set_other answers k m a None (λ q. omega (arith, le, q)))) h.5,
)

pub ends_more : (m : ℕ) (s mid t : Shared) (turns k : ℕ) (answers : List (Option Answer)) (a : Option Answer) → m < length answers → EndsCalls m s turns answers mid → EndsIfOpen (shared_is_open mid m) m mid k a t → EndsCalls (suc m) s (turns + k) (set answers m a) t
ends_more m s mid t turns k answers a below before one = (
  mid,
  turns,
  k,
  refl,
  kept m m s turns answers a mid (omega arith) before,
  subst (λ (x : Option Answer). EndsIfOpen (shared_is_open mid m) m mid k x t) (sym (get_or-set_same answers m a None below)) one,
)

-- the nodes so far have none open
pub closed_more : (m : ℕ) (s t : Shared) → ((i : ℕ) → i < m → shared_is_open s i ≡ false) → shared_is_open t m ≡ false → ((i : ℕ) → (i ≡ m → ⊥) → t.nodes i ≡ s.nodes i)
    → (i : ℕ) → i < m + 1 → shared_is_open t i ≡ false
closed_more m s t before here others i lt =
    ⊎_elim
    (λ q. subst (λ (j : ℕ). shared_is_open t j ≡ false) (sym q) here)
    (λ d. ap (λ (n : NodeState). is_some n.call) (others i d) ∙ before i (omega (arith, lt, d)))
    (cases_eq i m)

-- each answer so far is there where the call was open
pub answered_more : (m : ℕ) (s mid : Shared) (answers : List (Option Answer)) (a : Option Answer) → m < length answers → ((i : ℕ) → i < m → is_some (get_or answers i None) ≡ shared_is_open s i) → mid.nodes m ≡ s.nodes m
    → is_some a ≡ shared_is_open mid m → (i : ℕ) → i < m + 1 → is_some (get_or (set answers m a) i None) ≡ shared_is_open s i
answered_more m s mid answers a room before same here i lt =
    ⊎_elim
    (λ q. subst (λ (j : ℕ). is_some (get_or (set answers m a) j None) ≡ shared_is_open s j) (sym q) (ap is_some (get_or-set_same answers m a None room) ∙ here ∙ ap (λ (n : NodeState). is_some n.call) same))
    (λ d. ap is_some (get_or-set_other answers m i a None d) ∙ before i (omega (arith, lt, d)))
    (cases_eq i m)
