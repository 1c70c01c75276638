-- A row that is made leaves fewer turns.
use Rattle.std.proofs.Common.{◌≡◌, ◌<◌, ℕ, refl, sym, ap, subst, ⊎_elim, ◌∙◌}
use Rattle.std.proofs.lemmas.Bool.{cases_eq}
use Rattle.sci_core.specs.declared.pending.Pending.{Pending}
use Rattle.sci_core.specs.declared.rows.Exchange.{Exchange}
use Rattle.sci_core.specs.State.{State}
use Rattle.sci_core.specs.Step.{stepped, looked, look_of}
use Rattle.sci_ops.specs.declared.goals.Goal.{Goal}
use Rattle.sci_ops.specs.declared.answers.Answer.{Answer}
use Rattle.sci_ops.specs.declared.answers.Turn.{Turn}
use Rattle.sci_ops.specs.Alone.{IsAtRest}
use Rattle.sci_ops.proofs.Ending.Counting.{others, updated, not_updated}
use Rattle.sci_ops.proofs.Ending.Potential.{potential, turns_left}
use Rattle.sci_ops.proofs.Ending.Premise.{Alone, AloneIn, Falls, OthersRest}

pub looked_others : (me : ℕ) (s : State) → OthersRest me s → OthersRest me (looked s me)
looked_others me s o i d = not_updated s.steps me (look_of (s.steps me) (s.tags me)) i d ∙ o i d

pub looked_step : (me : ℕ) (s : State) (p : Pending) → s.steps me ≡ p → (looked s me).steps me ≡ look_of p (s.tags me)
looked_step me s p is = updated s.steps me (look_of (s.steps me) (s.tags me)) ∙ ap (λ (q : Pending). look_of q (s.tags me)) is

pub all_rest : (me : ℕ) (s : State) → OthersRest me s → s.steps me ≡ Pending.Idle → IsAtRest s
all_rest me s o e i = ⊎_elim (λ q. ap s.steps q ∙ e) (λ d. o i d) (cases_eq i me)

-- where no tag is changed, as many are listed
pub unchanged : (n me : ℕ) (s : State) → others me s.tags n ≡ others me s.tags n
unchanged n me s = refl

module _ (n : ℕ) (goal : Goal) (me : ℕ) where
  pub moves_to : (s u t : State) (r : Turn) (p : Pending) (x : Exchange) → s.steps me ≡ p → OthersRest me u → r ≡ Turn.Moved → t ≡ stepped u me x
      → AloneIn n goal me (stepped u me x) x.after
      → turns_left goal (others me (stepped u me x).tags n) ((stepped u me x).tags me).kind x.after < turns_left goal (others me s.tags n) (s.tags me).kind p
      → Falls n goal me s r t
  moves_to s u t r p x is rest turn to at less =
      let w : State = stepped u me x in
      let step : w.steps me ≡ x.after = updated u.steps me x.after in
      let alone : Alone n goal me w = record { others = λ i d. not_updated u.steps me x.after i d ∙ rest i d; at = subst (λ (q : Pending). AloneIn n goal me w q) (sym step) at } in
      let before : turns_left goal (others me w.tags n) (w.tags me).kind x.after < potential n goal me s = subst (λ (q : Pending). turns_left goal (others me w.tags n) (w.tags me).kind x.after < turns_left goal (others me s.tags n) (s.tags me).kind q) (sym is) less in
      let fewer : potential n goal me w < potential n goal me s = subst (λ (q : Pending). turns_left goal (others me w.tags n) (w.tags me).kind q < potential n goal me s) (sym step) before in
      subst (λ (q : Turn). Falls n goal me s q t) (sym turn) (subst (λ (z : State). Falls n goal me s Turn.Moved z) (sym to) (alone, fewer))

  -- as many others are listed as before
  pub moves : (s u t : State) (r : Turn) (p : Pending) (x : Exchange) → s.steps me ≡ p → OthersRest me u → r ≡ Turn.Moved → t ≡ stepped u me x
      → AloneIn n goal me (stepped u me x) x.after
      → others me (stepped u me x).tags n ≡ others me s.tags n
      → turns_left goal (others me s.tags n) ((stepped u me x).tags me).kind x.after < turns_left goal (others me s.tags n) (s.tags me).kind p
      → Falls n goal me s r t
  moves s u t r p x is rest turn to at same less =
      moves_to s u t r p x is rest turn to at (subst (λ (b : ℕ). turns_left goal b ((stepped u me x).tags me).kind x.after < turns_left goal (others me s.tags n) (s.tags me).kind p) (sym same) less)

  pub ends_in : (s t : State) (r : Turn) (p : Pending) (a : Answer) → s.steps me ≡ p → r ≡ Turn.Done a → IsAtRest t → 0 < turns_left goal (others me s.tags n) (s.tags me).kind p → Falls n goal me s r t
  ends_in s t r p a is turn rest some =
      subst (λ (q : Turn). Falls n goal me s q t) (sym turn) (subst (λ (q : Pending). 0 < turns_left goal (others me s.tags n) (s.tags me).kind q) (sym is) some, rest)

  pub ends_idle : (s u t : State) (r : Turn) (p : Pending) (x : Exchange) (a : Answer) → s.steps me ≡ p → OthersRest me u → r ≡ Turn.Done a → t ≡ stepped u me x → x.after ≡ Pending.Idle
      → 0 < turns_left goal (others me s.tags n) (s.tags me).kind p → Falls n goal me s r t
  ends_idle s u t r p x a is rest turn to idle some =
      let w : State = stepped u me x in
      let at_rest : IsAtRest w = all_rest me w (λ i d. not_updated u.steps me x.after i d ∙ rest i d) (updated u.steps me x.after ∙ idle) in
      ends_in s t r p a is turn (subst (λ (z : State). IsAtRest z) (sym to) at_rest) some
