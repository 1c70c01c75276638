-- A call on one of the lines at which a node has seats.
use Rattle.std.proofs.Common.{◌≡◌, ◌≢◌, ◌⊎◌, inl, inr, ℕ, Option, Some, None, IfSome, zero, suc, ◌<◌, List, [], ◌∷◌, map, length, get_or, set, refl, sym, ap, subst, ◌∙◌, arith}
use Rattle.std.proofs.lemmas.Bool.{cases_eq}
use Rattle.std.proofs.lemmas.List.{get_or-set_same, get_or-set_other, map-set, length-map}
use mathlib.Core.Option.{some}
use lib.ListN.{get_elem?}
use Rattle.sci_words.specs.declared.tags.Tag.{Tag}
use Rattle.sci_core.specs.declared.pending.Pending.{Pending}
use Rattle.sci_core.specs.PendingStep.{IsOwnWord}
use Rattle.sci_core.specs.WellFormed.{IsTag}
use Rattle.sci_port.specs.Owes.{Owes}
use Rattle.sci_port.specs.Seated.{Seated, CallsOn, step_on}
use Rattle.sci_port.specs.declared.calls.Call.{Call}

-- there is an element at each place
pub at_place : {A : Type 0} (xs : List A) (i : ℕ) → i < length xs → (x : A) × (get_elem? xs i ≡ some x)
at_place [] i h = absurd (omega arith)
at_place (x ∷ xs) zero h = (x, refl)
at_place (x ∷ xs) (suc i) h = at_place xs i (omega arith)

-- what is read off the element at a place stands at that place
pub read_at : {A B : Type 0} (f : A → B) (xs : List A) (i : ℕ) (x : A) (d : B) → get_elem? xs i ≡ some x → get_or (map f xs) i d ≡ f x
read_at f [] i x d e = absurd (let z = e in cc)
read_at f (y ∷ xs) zero x d e = ap f (let z = e in cc)
read_at f (y ∷ xs) (suc i) x d e = read_at f xs i x d e

module _ {K S : Type 0} (fits : K → ℕ → List ℕ → Type 0) (step_of : S → Pending) (keep : K) (node : ℕ) (nodes : List ℕ) (seats : List S) (line : ℕ) (call : Call) (x y : S)
    (near : line < length seats) (at : get_elem? seats line ≡ some x) (owed : Owes (get_or nodes line 0) (fits keep line) node (step_of x) call (step_of y)) (after : List S) (back : after ≡ set seats line y) where
  abbrev bank : List S → Seated K
  bank l = record { keep = keep; node = node; nodes = nodes; steps = map step_of l }

  steps_after : map step_of after ≡ set (map step_of seats) line (step_of y)
  steps_after = ap (λ (l : List S). map step_of l) back ∙ map-set step_of seats line y

  stands : get_or (map step_of after) line Pending.Idle ≡ step_of y
  stands = ap (λ (l : List Pending). get_or l line Pending.Idle) steps_after ∙ get_or-set_same (map step_of seats) line (step_of y) Pending.Idle (subst (λ (n : ℕ). line < n) (sym (length-map seats step_of)) near)

  pub calls_on : CallsOn fits (bank seats) line call (bank after)
  calls_on = record {
    way = refl;
    fact = refl;
    nodes = λ m. refl;
    others = λ m other. ap (λ (l : List Pending). get_or l m Pending.Idle) steps_after ∙ get_or-set_other (map step_of seats) line m (step_of y) Pending.Idle other;
    owes = subst (λ (p : Pending). Owes (get_or nodes line 0) (fits keep line) node p call (get_or (map step_of after) line Pending.Idle)) (sym (read_at step_of seats line x Pending.Idle at))
        (subst (λ (p : Pending). Owes (get_or nodes line 0) (fits keep line) node (step_of x) call p) (sym stands) owed);
  }

module _ {K : Type 0} {fits : K → ℕ → List ℕ → Type 0} {s t : Seated K} {line : ℕ} {call : Call} (h : CallsOn fits s line call t) (same : step_on t line ≡ step_on s line) where
  each_step : (m : ℕ) → (m ≡ line) ⊎ (m ≢ line) → step_on t m ≡ step_on s m
  each_step m (inl e) = subst (λ (k : ℕ). step_on t k ≡ step_on s k) (sym e) same
  each_step m (inr other) = h.others m other

  -- where the step on the line stays, so do all
  pub same_steps : (m : ℕ) → step_on t m ≡ step_on s m
  same_steps m = each_step m (cases_eq m line)

-- a tag that was looked at is one of the line
pub own_form : (n : ℕ) (p : Pending) (answer : Option Tag) → IfSome answer (λ (t : Tag). IsOwnWord p t × IsTag n t) → IfSome answer (λ (t : Tag). IsTag n t)
own_form n p None h = tt
own_form n p (Some t) h = h.1

-- and it is the node's own
pub own_word : (n : ℕ) (p : Pending) (answer : Option Tag) → IfSome answer (λ (t : Tag). IsOwnWord p t × IsTag n t) → IfSome answer (λ (t : Tag). IsOwnWord p t)
own_word n p None h = tt
own_word n p (Some t) h = h.0
