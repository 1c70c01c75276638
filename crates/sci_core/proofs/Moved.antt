-- The mover of a line that is sound.
use Rattle.std.proofs.Common.{◌≡◌, ℕ, ◌<◌, Bool, true, false, List, arith}
use Rattle.std.proofs.lemmas.List.{get_or_past}
use Rattle.sci_core.specs.declared.pending.Pending.{Pending}
use Rattle.sci_core.specs.Whole.{WholeLine, nodes_of, state_of, IsSound}
use Rattle.sci_core.specs.Progress.{IsAtRest, IsMover, goes}
use Rattle.sci_core.proofs.GoingOn.{goes_idle, rests}
use Rattle.sci_core.proofs.Exchanging.{goes_of, moves_of}

not_both : (b : Bool) → b ≡ true → b ≡ false → ⊥
not_both b h k = cc

module _ {K : Type 0} (fits : List ℕ → Type 0) (w : WholeLine K) (o : IsSound fits w) where
  pub at_rest : ((i : ℕ) → i < nodes_of w → goes (state_of w) i ≡ false) → IsAtRest (state_of w)
  at_rest h = rests (state_of w) o.ruled.words o.ruled.witness o.ruled.law (nodes_of w) (λ i l. get_or_past w.steps i Pending.Idle (omega (arith, l, o.steps))) h

  pub is_mover : (i : ℕ) → goes (state_of w) i ≡ true → IsMover (nodes_of w) (state_of w) i
  is_mover i h = (λ e. not_both (goes (state_of w) i) h (goes_idle (state_of w) o.ruled.words i e), moves_of (nodes_of w) (state_of w) o.ruled.witness o.ruled.law o.ruled.links i h)

  pub not_below : (i : ℕ) → ((k : ℕ) → k < i → goes (state_of w) k ≡ false) → (j : ℕ) → j < i → IsMover (nodes_of w) (state_of w) j → ⊥
  not_below i h j l m = not_both (goes (state_of w) j) (goes_of (nodes_of w) (state_of w) o.ruled.witness o.ruled.law o.ruled.links j m.0 m.1) (h j l)
