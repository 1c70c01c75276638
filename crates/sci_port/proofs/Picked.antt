-- What a node was shown is the same by the calls of the run, and by those of its own log.
use Rattle.std.proofs.Common.{◌≡◌, ℕ, ◌+◌, Option, Some, None, List, [], ◌∷◌, ◌++◌, refl, sym, ap, ◌∙◌}
use mathlib.Core.Logic.{dite}
use native.Mathlib.Decide.{ℕ_discrete}
use Rattle.sci_core.specs.declared.lines.Line.{Line}
use Rattle.sci_core.specs.declared.receipts.Receipt.{Receipt}
use Rattle.sci_port.specs.declared.calls.Call.{Call}
use Rattle.sci_port.specs.Shown.{kept_after, shown_by, shown_in, with_call, calls_by}
use Rattle.sci_port.specs.Runs.{done_from}
use Rattle.sci_port.proofs.Running.{here_from, else_from}

module _ {E : Type 0} (f : E → Option Call) where
  one_step : (k : Line) (p q j : ℕ) (e : ℕ × E) (es : List (ℕ × E)) (o : Option Call) → f e.1 ≡ o
      → ((l : Line) (a b : ℕ) → shown_in l (done_from a j (calls_by f es)) ≡ shown_in l (calls_by f (done_from b j es)))
      → shown_in k (done_from p j (with_call o e.0 (calls_by f es))) ≡ shown_in k (calls_by f (done_from q j (e ∷ es)))
  one_step k p q j e es None is more = dite (ℕ_discrete e.0 j)
      (λ here. more k p (q + 1) ∙ sym (ap (λ (l : List (ℕ × E)). shown_in k (calls_by f l)) (here_from q j e es here) ∙ ap (λ (o : Option Call). shown_in k (with_call o q (calls_by f (done_from (q + 1) j es)))) is))
      (λ ne. more k p (q + 1) ∙ sym (ap (λ (l : List (ℕ × E)). shown_in k (calls_by f l)) (else_from q j e es ne)))
  one_step k p q j e es (Some c) is more = dite (ℕ_discrete e.0 j)
      (λ here. ap (λ (l : List (ℕ × Call)). shown_in k l) (here_from p j (e.0, c) (calls_by f es) here)
      ∙ (ap (λ (l : List Receipt). shown_by k c ++ l) (more (kept_after k c) (p + 1) (q + 1))
      ∙ sym (ap (λ (l : List (ℕ × E)). shown_in k (calls_by f l)) (here_from q j e es here) ∙ ap (λ (o : Option Call). shown_in k (with_call o q (calls_by f (done_from (q + 1) j es)))) is)))
      (λ ne. ap (λ (l : List (ℕ × Call)). shown_in k l) (else_from p j (e.0, c) (calls_by f es) ne) ∙ (more k (p + 1) (q + 1) ∙ sym (ap (λ (l : List (ℕ × E)). shown_in k (calls_by f l)) (else_from q j e es ne))))

  pub same_shown : (run : List (ℕ × E)) (j : ℕ) (k : Line) (p q : ℕ) → shown_in k (done_from p j (calls_by f run)) ≡ shown_in k (calls_by f (done_from q j run))
  same_shown [] j k p q = refl
  same_shown (e ∷ es) j k p q = one_step k p q j e es (f e.1) refl (λ l a b. same_shown es j l a b)
