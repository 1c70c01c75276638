-- Whom a node of a line that is sound waits for.
use Rattle.std.proofs.Common.{◌≡◌, ◌≢◌, ◌⊎◌, ℕ, ◌<◌, ◌≤◌, Bool, true, false, Option, List, MatchOption, refl, sym, ap, subst, inl, inr, ⊎_elim, ◌∙◌, arith}
use Rattle.std.proofs.lemmas.List.{get_or_past}
use Rattle.sci_core.specs.declared.pending.Pending.{Pending}
use Rattle.sci_core.specs.Stage.{stage_of}
use Rattle.sci_core.specs.Whole.{WholeLine, nodes_of, state_of, IsSound}
use Rattle.sci_core.specs.Progress.{Moves, goes}
use Rattle.sci_core.specs.Waiting.{Waits, sought}
use Rattle.sci_core.proofs.Exchanging.{goes_of, moves_of}
use Rattle.sci_core.proofs.Awaited.{below, waits_for}
use Rattle.sci_core.proofs.Heights.{height, no_circle}

not_both : (b : Bool) → b ≡ true → b ≡ false → ⊥
not_both b h k = cc

idle_or_not : (p : Pending) → (p ≡ Pending.Idle) ⊎ (p ≢ Pending.Idle)
idle_or_not Pending.Idle = inl refl
idle_or_not _ = inr (λ e. grind (arith, e))

module _ {K : Type 0} (fits : List ℕ → Type 0) (w : WholeLine K) (o : IsSound fits w) where
  beyond : (i : ℕ) → nodes_of w ≤ i → (state_of w).steps i ≡ Pending.Idle
  beyond i l = get_or_past w.steps i Pending.Idle (omega (arith, l, o.steps))

  pub moves_as : (i : ℕ) → goes (state_of w) i ≡ true → ((state_of w).steps i ≡ Pending.Idle) ⊎ Moves (nodes_of w) (state_of w) i
  moves_as i h = inr (moves_of (nodes_of w) (state_of w) o.ruled.witness o.ruled.law o.ruled.links i h)

  pub waits_as : (i : ℕ) → goes (state_of w) i ≡ false → (r : Option ℕ) → r ≡ sought (state_of w) (nodes_of w) i (stage_of ((state_of w).steps i)) ((state_of w).tags i).forw ((state_of w).tags i).back
      → MatchOption r (((state_of w).steps i ≡ Pending.Idle) ⊎ Moves (nodes_of w) (state_of w) i) (λ y. (y < nodes_of w) × ((state_of w).steps y ≢ Pending.Idle) × Waits (nodes_of w) (state_of w) i y)
  waits_as i h r e =
      let P : Option ℕ → Type 0 = λ x. MatchOption x (((state_of w).steps i ≡ Pending.Idle) ⊎ Moves (nodes_of w) (state_of w) i) (λ y. (y < nodes_of w) × ((state_of w).steps y ≢ Pending.Idle) × Waits (nodes_of w) (state_of w) i y) in
      ⊎_elim
      (λ d. subst P (sym (e ∙ ap (λ (p : Pending). sought (state_of w) (nodes_of w) i (stage_of p) ((state_of w).tags i).forw ((state_of w).tags i).back) d)) (inl d))
      (λ d.
      let z = waits_for (nodes_of w) (state_of w) o.ruled.witness o.ruled.law o.ruled.words beyond i d h in
      subst P (sym (e ∙ z.1)) (
        below (nodes_of w) (state_of w) o.ruled.witness o.ruled.law o.ruled.words beyond z.0 z.2,
        z.2,
        record { busy = d; stuck = λ m. not_both (goes (state_of w) i) (goes_of (nodes_of w) (state_of w) o.ruled.witness o.ruled.law o.ruled.links i d m) h; whom = z.3 },
      ))
      (idle_or_not ((state_of w).steps i))

  pub circle : (height : ℕ → ℕ) × ((i y z : ℕ) → Waits (nodes_of w) (state_of w) i y → Waits (nodes_of w) (state_of w) y z → height y < height i)
  circle = (height (nodes_of w) (state_of w) o.ruled.witness o.ruled.law o.ruled.words beyond, no_circle (nodes_of w) (state_of w) o.ruled.witness o.ruled.law o.ruled.words beyond o.ruled.links)
