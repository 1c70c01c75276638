-- Banks of one line and of two.
use Rattle.std.proofs.Common.{◌≡◌, ℕ, zero, suc, [], ◌∷◌, sym, subst, arith}
use mathlib.Core.Option.{some, some-injective, some-ne-none}
use lib.ListN.{get_elem?}
use Rattle.sci_port.specs.SeatBanks.{AreLines, IsLine, LineTerms}

module _ {K L : Type 0} (terms : L → LineTerms K) (nodes : ℕ) (keep : K) where
  the_line : (a : L) → IsLine nodes keep 0 (terms a) → (k : ℕ) (l : L) → get_elem? (a ∷ []) k ≡ some l → IsLine nodes keep k (terms l)
  the_line a only zero l e = subst (λ (x : L). IsLine nodes keep 0 (terms x)) (some-injective a l e) only
  the_line a only (suc k) l e = absurd (some-ne-none l (sym e))

  each_line : (a b : L) → IsLine nodes keep 0 (terms a) → IsLine nodes keep 1 (terms b) → (k : ℕ) (l : L) → get_elem? (a ∷ b ∷ []) k ≡ some l → IsLine nodes keep k (terms l)
  each_line a b first second zero l e = subst (λ (x : L). IsLine nodes keep 0 (terms x)) (some-injective a l e) first
  each_line a b first second (suc zero) l e = subst (λ (x : L). IsLine nodes keep 1 (terms x)) (some-injective b l e) second
  each_line a b first second (suc (suc k)) l e = absurd (some-ne-none l (sym e))

module _ {K L : Type 0} {terms : L → LineTerms K} (nodes : ℕ) (keep : K) where
  pub one_line : (a : L) → IsLine nodes keep 0 (terms a) → AreLines terms (a ∷ [])
  one_line a only = record { some_are = omega arith; few = omega arith; nodes = nodes; keep = keep; each = the_line terms nodes keep a only }

  pub two_lines : (a b : L) → IsLine nodes keep 0 (terms a) → IsLine nodes keep 1 (terms b) → AreLines terms (a ∷ b ∷ [])
  two_lines a b first second = record { some_are = omega arith; few = omega arith; nodes = nodes; keep = keep; each = each_line terms nodes keep a b first second }
