-- The line of a slot, at home or in a hand.
use Rattle.std.proofs.Common.{◌≡◌, ℕ, Option, Some, None, List, unwrap_or, refl, sym, subst, ap, inl, inr, ⊎_elim, ◌∙◌, arith}
use Rattle.std.specs.Option.{option_or}
use Rattle.sci_core.specs.declared.lines.Line.{Line}
use Rattle.sci_core.specs.declared.pending.Pending.{Pending}
use Rattle.sci_core.specs.State.{State}
use Rattle.sci_core.specs.Shape.{Phase, shape, phase_of, kept_line}
use Rattle.sci_core.specs.Law.{Law, Witness}
use Rattle.sci_core.specs.Copies.{IsCopy, IsCopying, IsMemoryCopy}
use Rattle.sci_core.specs.Hands.{FindsKept, HasMemorySlot}
use Rattle.sci_core.specs.Sharers.{IsValidSharer}
use Rattle.sci_core.specs.Whole.{WholeLine, state_of, IsSound}
use Rattle.sci_core.proofs.ReadBack.Slots.{copying_phase, copying_kept, memory_lent}
use Rattle.sci_core.proofs.ReadBack.Value.{sharer_copy}

idle_keeps_none : (p : Pending) → phase_of p ≡ Phase.Idle → kept_line p ≡ None
idle_keeps_none Pending.Idle h = refl
idle_keeps_none _ h = absurd (grind (arith, h))

same_line : (f : Option Line) (v w : Line) → f ≡ Some v → f ≡ Some w → v ≡ w
same_line f v w a b = cc

not_none : (f : Option Line) (v : Line) → f ≡ None → f ≡ Some v → ⊥
not_none f v a b = cc

module _ (s : State) (g : Witness) (o : Law (shape s) g) where
  memory_shown : (slot hand : Option Line) (d : Line) → s.memory_slot ≡ slot → FindsKept HasMemorySlot s.steps hand → IsMemoryCopy s (unwrap_or (option_or slot hand) d)
  memory_shown (Some l) hand d e h = inl e
  memory_shown None (Some l) d e h = inr (e, h)
  memory_shown None None d e h = absurd (h g.borrower (o.slots.borrower_has (memory_lent s g o e)))

  copied_keeps_none : (j i : ℕ) → IsCopying (s.steps j) i → kept_line (s.steps i) ≡ None
  copied_keeps_none j i h = idle_keeps_none (s.steps i) (o.slots.copied_idle j i (copying_phase (s.steps j) i h) (copying_kept (s.steps j) i h))

  copier_is : (j i : ℕ) → IsCopying (s.steps j) i → g.copier i ≡ j
  copier_is j i h = o.slots.copied_by j i (copying_phase (s.steps j) i h) (copying_kept (s.steps j) i h)

  same_copier : (i j k : ℕ) (v w : Line) → IsCopying (s.steps j) i → kept_line (s.steps j) ≡ Some v → IsCopying (s.steps k) i → kept_line (s.steps k) ≡ Some w → v ≡ w
  same_copier i j k v w a e b h =
      let c : kept_line (s.steps k) ≡ Some v = subst (λ (x : ℕ). kept_line (s.steps x) ≡ Some v) (sym (copier_is j i a) ∙ copier_is k i b) e in
      same_line (kept_line (s.steps k)) v w c h

  copied_shown : (i : ℕ) (own copied : Option Line) (d : Line) → kept_line (s.steps i) ≡ own → FindsKept (λ p. IsCopying p i) s.steps copied → (j : ℕ) → IsCopying (s.steps j) i → (v : Line) → kept_line (s.steps j) ≡ Some v → unwrap_or (option_or own copied) d ≡ v
  copied_shown i (Some l) copied d e f j h v k = absurd (not_none (kept_line (s.steps i)) l (copied_keeps_none j i h) e)
  copied_shown i None (Some l) d e f j h v k = same_copier i f.0 j l v f.1 f.2 h k
  copied_shown i None None d e f j h v k = absurd (f j h)

  own_shown : (i : ℕ) (own copied : Option Line) (d : Line) → kept_line (s.steps i) ≡ own → (v : Line) → kept_line (s.steps i) ≡ Some v → unwrap_or (option_or own copied) d ≡ v
  own_shown i (Some l) copied d e v k = same_line (kept_line (s.steps i)) l v e k
  own_shown i None copied d e v k = absurd (not_none (kept_line (s.steps i)) v e k)

  line_shown : (i : ℕ) (slot own copied : Option Line) (d : Line) → s.slots i ≡ slot → kept_line (s.steps i) ≡ own → FindsKept (λ p. IsCopying p i) s.steps copied → (v : Line) → IsCopy s i v → unwrap_or (option_or (option_or slot own) copied) d ≡ v
  line_shown i (Some l) own copied d e k f v c = ⊎_elim (λ h. same_line (s.slots i) l v e h) (λ h. absurd (not_none (s.slots i) l h.0 e)) c
  line_shown i None own copied d e k f v c =
      ⊎_elim
      (λ h. absurd (not_none (s.slots i) v e h))
      (λ h.
      ⊎_elim
      (λ a. own_shown i own copied d k v (subst (λ (x : ℕ). kept_line (s.steps x) ≡ Some v) a.0 h.1.2))
      (λ a. copied_shown i own copied d k f h.1.0 a v h.1.2)
      h.1.1)
      c

module _ {K : Type 0} (fits : List ℕ → Type 0) (w : WholeLine K) (o : IsSound fits w) where
  -- memory's line is that of its slot, or else of the hand that is found
  pub memory_line_is : (slot hand both : Option Line) (d line : Line) → slot ≡ w.memory_slot → FindsKept HasMemorySlot (state_of w).steps hand → both ≡ option_or slot hand → line ≡ unwrap_or both d → IsMemoryCopy (state_of w) line
  memory_line_is slot hand both d line e h b l =
      subst (λ (x : Line). IsMemoryCopy (state_of w) x) (sym (l ∙ ap (λ (x : Option Line). unwrap_or x d) b))
      (memory_shown (state_of w) o.ruled.witness o.ruled.law slot hand d (sym e) h)

  -- a node's line is that of its slot, or else of its own step, or else of the step that copies it
  pub line_is : (node : ℕ) (slot own copied both all : Option Line) (d line : Line) → slot ≡ (state_of w).slots node → own ≡ kept_line ((state_of w).steps node) → FindsKept (λ p. IsCopying p node) (state_of w).steps copied
      → both ≡ option_or slot own → all ≡ option_or both copied → line ≡ unwrap_or all d → (v : Line) → IsCopy (state_of w) node v → line ≡ v
  line_is node slot own copied both all d line es ek h eb ea el v c =
      el ∙ ap (λ (x : Option Line). unwrap_or x d) (ea ∙ ap (λ (x : Option Line). option_or x copied) eb)
      ∙ line_shown (state_of w) o.ruled.witness o.ruled.law node slot own copied d (sym es) (sym ek) h v c

  -- and so it is the copy of a valid sharer
  pub sharer_line_is : (node : ℕ) (line : Line) → ((v : Line) → IsCopy (state_of w) node v → line ≡ v) → IsValidSharer (state_of w) node → IsCopy (state_of w) node line
  sharer_line_is node line h v =
      let c : IsCopy (state_of w) node o.ruled.witness.value = sharer_copy (state_of w) o.ruled.witness o.ruled.law node ((state_of w).slots node) refl v in
      subst (λ (x : Line). IsCopy (state_of w) node x) (sym (h o.ruled.witness.value c)) c
