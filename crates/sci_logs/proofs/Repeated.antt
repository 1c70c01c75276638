-- A line that is pushed so many times.
use Rattle.std.proofs.Common.{◌≡◌, ◌+◌, ◌++◌, ◌∙◌, ℕ, suc, List, [], arith, sym, ap, subst, append-nil, append_assoc}
use Rattle.sci_logs.specs.TurnText.{repeated}

pub none_pushed : (line before : List ℕ) → before ≡ before ++ repeated line 0
unfolding repeated
none_pushed line before = sym (append-nil before)

pub more_pushed : (line before now after : List ℕ) (n : ℕ) → now ≡ before ++ repeated line n → after ≡ now ++ line → after ≡ before ++ repeated line (n + 1)
unfolding repeated
more_pushed line before now after n so_far pushed =
    let e : suc n ≡ n + 1 = omega arith in
    subst (λ (k : ℕ). after ≡ before ++ repeated line k) e
    (pushed ∙ ap (λ (l : List ℕ). l ++ line) so_far ∙ append_assoc before (repeated line n) line)
