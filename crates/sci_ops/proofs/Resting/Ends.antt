-- Operations are taken to their ends one after another.
use Rattle.std.proofs.Common.{◌≡◌, ◌<◌, ◌≤◌, ◌+◌, ◌*◌, ℕ, suc, true, Option, Some, None, is_some, List, length, get_or, set, refl, sym, ap, subst, ⊎_elim, ◌∙◌, arith}
use Rattle.std.proofs.lemmas.Bool.{cases_eq}
use Rattle.std.proofs.lemmas.List.{get_or_read, get_or-set_same, get_or-set_other}
use Rattle.sci_core.specs.State.{State, update}
use Rattle.sci_core.specs.Whole.{WholeLine, IsSameLine, nodes_of}
use Rattle.sci_ops.specs.declared.answers.Answer.{Answer}
use Rattle.sci_ops.specs.declared.goals.Goal.{Goal}
use Rattle.sci_ops.specs.Change.{StoresFitting}
use Rattle.sci_ops.specs.Operation.{Operation}
use Rattle.sci_ops.specs.Rest.{EndsOne, EndsEach, op_at}
use Rattle.sci_ops.specs.Table.{begun}
use Rattle.sci_ops.proofs.Ending.Counting.{updated, not_updated}

module _ (n : ℕ) (fits : List ℕ → Type 0) where
  pub none_yet : (ops : List Operation) (s : State) → EndsEach n fits 0 ops ops s 0 s
  none_yet ops s = record { at = λ i. s; taken = λ i. 0; first = refl; none = refl; last = refl; all = refl; each = λ i l. absurd (omega (arith, l)) }

  pub one_further : (m : ℕ) (ops new : List Operation) (o : Operation) (s mid t : State) (turns k : ℕ) → m < length new → EndsEach n fits m ops new s turns mid → EndsOne n fits m (op_at ops m) (op_at ops m).answer mid k o t → EndsEach n fits (suc m) ops (set new m o) s (turns + k) t
  one_further m ops new o s mid t turns k below h e =
      let after : ℕ → State = update h.at (suc m) t in
      let taken : ℕ → ℕ = update h.taken (suc m) (turns + k) in
      let One : ℕ → State → ℕ → Operation → State → Type 0 = λ i a j b c. EndsOne n fits i (op_at ops i) (op_at ops i).answer a j b c in
      let here : One m (after m) k (op_at (set new m o) m) (after (suc m)) =
      subst (λ (c : State). One m (after m) k (op_at (set new m o) m) c) (sym (updated h.at (suc m) t))
      (subst (λ (b : Operation). One m (after m) k b t) (sym (get_or-set_same new m o (begun Goal.Load) below))
      (subst (λ (a : State). One m a k o t) (sym (not_updated h.at (suc m) t m (λ q. omega (arith, q)) ∙ h.last)) e)) in
      let counted : taken (suc m) ≡ taken m + k = updated h.taken (suc m) (turns + k) ∙ ap (λ (j : ℕ). j + k) (sym (not_updated h.taken (suc m) (turns + k) m (λ q. omega (arith, q)) ∙ h.all)) in
      record {
        at = after;
        taken = taken;
        first = not_updated h.at (suc m) t 0 (λ q. omega (arith, q)) ∙ h.first;
        none = not_updated h.taken (suc m) (turns + k) 0 (λ q. omega (arith, q)) ∙ h.none;
        last = updated h.at (suc m) t;
        all = updated h.taken (suc m) (turns + k);
        each = λ i l. ⊎_elim
            (λ q. subst (λ (j : ℕ). (a : ℕ) × (taken (suc j) ≡ taken j + a) × One j (after j) a (op_at (set new m o) j) (after (suc j))) (sym q) (k, counted, here))
            (λ d.
            let was = h.each i (omega (arith, l, d)) in
            let before : taken i ≡ h.taken i = not_updated h.taken (suc m) (turns + k) i (λ q. omega (arith, l, q)) in
            let behind : taken (suc i) ≡ h.taken (suc i) = not_updated h.taken (suc m) (turns + k) (suc i) (λ q. d (omega (arith, q))) in (
              was.0,
              behind ∙ was.1 ∙ ap (λ (j : ℕ). j + was.0) (sym before),
              subst (λ (c : State). One i (after i) was.0 (op_at (set new m o) i) c) (sym (not_updated h.at (suc m) t (suc i) (λ q. d (omega (arith, q)))))
                  (subst (λ (b : Operation). One i (after i) was.0 b (h.at (suc i))) (sym (get_or-set_other new m i o (begun Goal.Load) d))
                  (subst (λ (a : State). One i a was.0 (op_at new i) (h.at (suc i))) (sym (not_updated h.at (suc m) t i (λ q. omega (arith, l, q)))) was.2)),
            ))
            (cases_eq i m);
      }

-- an operation that was taken to its end has ended
pub ended_some : (n : ℕ) (fits : List ℕ → Type 0) (i : ℕ) (op : Operation) (answer : Option Answer) (s : State) (k : ℕ) (new : Operation) (t : State) → op.answer ≡ answer → EndsOne n fits i op answer s k new t → is_some new.answer ≡ true
ended_some n fits i op (Some answer) s k new t is h = ap (λ (o : Operation). is_some o.answer) h.1 ∙ ap is_some is
ended_some n fits i op None s k new t is h = ap (λ (o : Operation). is_some o.answer) h.2

-- the operation that a loop takes at this place is the one that was there at first
pub taken_op : (ops all : List Operation) (k p : ℕ) (o : Operation) → p ≡ k → k < length ops → o ≡ get_or ops p o → op_at ops k ≡ op_at all k → o ≡ op_at all k
taken_op ops all k p o e l is same =
    let inside : p < length ops = omega (arith, e, l) in
    get_or_read ops p o inside is (begun Goal.Load) ∙ ap (op_at ops) e ∙ same

pub one_more_part : (a s b k m : ℕ) → s ≤ b + k * m → a ≤ s + m → a ≤ b + (k + 1) * m
one_more_part a s b k m h l = omega (arith, h, l)

module _ {K : Type 0} (fits : K → ℕ → List ℕ → Type 0) (a w : WholeLine K) (same : IsSameLine a w) where
  pub one_on : (i : ℕ) (op : Operation) (answer : Option Answer) (s : State) (k : ℕ) (o : Operation) (t : State) → EndsOne (nodes_of w) (fits w.keep w.number) i op answer s k o t → EndsOne (nodes_of a) (fits a.keep a.number) i op answer s k o t
  one_on i op answer s j o t h =
      subst (λ (n : ℕ). EndsOne n (fits a.keep a.number) i op answer s j o t) same.nodes
      (subst (λ (k : K). EndsOne (nodes_of w) (fits k a.number) i op answer s j o t) same.keep
      (subst (λ (m : ℕ). EndsOne (nodes_of w) (fits w.keep m) i op answer s j o t) same.number h))

  pub stores_there : (goal : Goal) → StoresFitting (fits a.keep a.number) goal → StoresFitting (fits w.keep w.number) goal
  stores_there goal h =
      subst (λ (k : K). StoresFitting (fits k w.number) goal) (sym same.keep)
      (subst (λ (m : ℕ). StoresFitting (fits a.keep m) goal) (sym same.number) h)
