-- Whose hand each slot is in.
use Rattle.std.proofs.Common.{◌≡◌, ◌⊎◌, ◌≢◌, ℕ, true, Some, None, refl, sym, inl, inr, ⊎_elim, ◌∙◌, arith}
use Rattle.std.proofs.lemmas.Bool.{cases_Bool}
use Rattle.sci_core.specs.declared.pending.Pending.{Pending}
use Rattle.sci_core.specs.State.{State}
use Rattle.sci_core.specs.Shape.{Phase, shape, phase_of, kept_of}
use Rattle.sci_core.specs.Law.{Law, Witness, has_slot}
use Rattle.sci_core.specs.Copies.{IsCopying, HasInHand}
use Rattle.sci_core.specs.Slots.{HasSlotsInHands}

-- what a copying step says, both ways
pub copying : (p : Pending) (i : ℕ) → phase_of p ≡ Phase.Copying → kept_of p ≡ Some i → IsCopying p i
copying (Pending.Copying f w l) i h k = grind (arith, k)
copying _ i h k = absurd (grind (arith, h))

pub copying_phase : (p : Pending) (i : ℕ) → IsCopying p i → phase_of p ≡ Phase.Copying
copying_phase (Pending.Copying f w l) i h = refl
copying_phase _ i h = absurd h

pub copying_kept : (p : Pending) (i : ℕ) → IsCopying p i → kept_of p ≡ Some i
copying_kept (Pending.Copying f w l) i h = rw h refl
copying_kept _ i h = absurd h

holding_slot : (p : Phase) → p ≡ Phase.Holding → has_slot p ≡ true
holding_slot p e = rw e refl

holding_or_not : (p : Phase) → (p ≡ Phase.Holding) ⊎ (p ≢ Phase.Holding)
holding_or_not Phase.Holding = inl refl
holding_or_not _ = inr (λ e. grind (arith, e))

module _ (s : State) (g : Witness) (o : Law (shape s) g) where
  pub copied_out : (j i : ℕ) → IsCopying (s.steps j) i → s.slots i ≡ None
  copied_out j i h = o.slots.held_out i (o.slots.copied_held j i (copying_phase (s.steps j) i h) (copying_kept (s.steps j) i h))

  copier_copies : (i : ℕ) → (s.tags i).held ≡ true → phase_of (s.steps i) ≢ Phase.Holding → IsCopying (s.steps (g.copier i)) i
  copier_copies i h n = copying (s.steps (g.copier i)) i (o.slots.held_by i h n) (o.slots.held_for i h n)

  copied_idle : (j i : ℕ) → IsCopying (s.steps j) i → phase_of (s.steps i) ≡ Phase.Idle
  copied_idle j i h = o.slots.copied_idle j i (copying_phase (s.steps j) i h) (copying_kept (s.steps j) i h)

  copier_is : (j i : ℕ) → IsCopying (s.steps j) i → g.copier i ≡ j
  copier_is j i h = o.slots.copied_by j i (copying_phase (s.steps j) i h) (copying_kept (s.steps j) i h)

  -- a slot that is out is in a hand
  pub in_hand : (i : ℕ) → s.slots i ≡ None → (j : ℕ) × HasInHand s j i
  in_hand i e =
      ⊎_elim
      (λ h. (i, inl (refl, h)))
      (λ h.
      let c = o.slots.at_home i h in
      let held : (s.tags i).held ≡ true = let o : ℕ = 0 in grind (arith, c, e) in
      (g.copier i, inr (copier_copies i held (λ p. let q = holding_slot (phase_of (s.steps i)) p in grind (arith, q, h)))))
      (cases_Bool (has_slot (phase_of (s.steps i))))

  hand_out : (j i : ℕ) → HasInHand s j i → s.slots i ≡ None
  hand_out j i h = ⊎_elim (λ a. o.slots.in_hand i a.1) (λ a. copied_out j i a) h

  own_not_copied : (j i : ℕ) → has_slot (phase_of (s.steps i)) ≡ true → IsCopying (s.steps j) i → ⊥
  own_not_copied j i h c = let e = copied_idle j i c in let o : ℕ = 0 in grind (arith, e, h)

  in_one : (i j k : ℕ) → HasInHand s j i → HasInHand s k i → j ≡ k
  in_one i j k a b =
      ⊎_elim
      (λ x. ⊎_elim (λ y. x.0 ∙ sym y.0) (λ y. absurd (own_not_copied k i x.1 y)) b)
      (λ x. ⊎_elim (λ y. absurd (own_not_copied j i y.1 x)) (λ y. sym (copier_is j i x) ∙ copier_is k i y) b)
      a

  held_for : (i : ℕ) → (s.tags i).held ≡ true → (phase_of (s.steps i) ≡ Phase.Holding) ⊎ ((j : ℕ) × IsCopying (s.steps j) i)
  held_for i h = ⊎_elim (λ p. inl p) (λ n. inr (g.copier i, copier_copies i h n)) (holding_or_not (phase_of (s.steps i)))

  held_by : (i : ℕ) → (phase_of (s.steps i) ≡ Phase.Holding) ⊎ ((j : ℕ) × IsCopying (s.steps j) i) → (s.tags i).held ≡ true
  held_by i h = ⊎_elim (λ p. o.slots.holding i p) (λ c. o.slots.copied_held c.0 i (copying_phase (s.steps c.0) i c.1) (copying_kept (s.steps c.0) i c.1)) h

  pub memory_lent : s.memory_slot ≡ None → s.memory.lent ≡ true
  memory_lent e = let c = o.slots.memory_home in let o : ℕ = 0 in grind (arith, c, e)

  pub slots_of_law : HasSlotsInHands s
  slots_of_law = record {
    memory_out = (o.slots.memory_out, memory_lent);
    memory_in_hand = ((λ h. (g.borrower, o.slots.borrower_has h)), (λ h. o.slots.lends h.0 h.1));
    memory_in_one = λ j k a b. sym (o.slots.lends_one j a) ∙ o.slots.lends_one k b;
    out = λ i. (in_hand i, (λ h. hand_out h.0 i h.1));
    in_one = in_one;
    held = λ i. (held_for i, held_by i);
  }
