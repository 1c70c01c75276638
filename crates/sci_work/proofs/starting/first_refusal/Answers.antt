use Rattle.std.proofs.Common.{◌≡◌, ℕ, zero, suc, ◌<◌, true, false, List, [], ◌∷◌, IfErr, get_or, length, arith, ap, refl, sym, subst, ◌∙◌}
use Rattle.std.proofs.lemmas.Grind.{common_steps}
use Rattle.sci_work.specs.Programs.{ComesInPart}
use Rattle.sci_work.specs.declared.refusals.WorkRefusal.{WorkRefusal}
use Rattle.sci_work.proofs.Refusing.{of_part}
use Rattle.sci_work.proofs.starting.first_refusal.Goals as goal

-- inside a list the default doesn't matter
any_default : {A : Type 0} (xs : List A) (k : ℕ) (d e : A) → k < length xs → get_or xs k d ≡ get_or xs k e
any_default [] k d e low = absurd (omega (arith, low))
any_default (x ∷ xs) zero d e low = refl
any_default (x ∷ xs) (suc k) d e low = any_default xs k d e (omega (arith, low))

pub loop-one-init : goal.loop-one-init
loop-one-init g c = λ k d low. absurd (omega (arith, low))

pub loop-one-preserved : goal.loop-one-preserved
loop-one-preserved g c = grind (arith, common_steps)

pub returns-then-ne : goal.returns-then-ne
returns-then-ne g c =
    let i = c.loop-one.one-index in let one = c.one-item.result in let refusal = c.in-Err.refusal in let done = c.args.done.now in
    let own : refusal ≡ WorkRefusal.Stopped → ⊥ = λ e. (let h : true ≡ false = rw e at c.if-ne.ensures in cc) in
    let part = subst (λ x. IfErr x.share (ComesInPart c.args.program)) (sym c.one-item.is) (c.requires i one c.loop-one-test.true) in
    record {
      comes = of_part c.args.program refusal (subst (λ r. IfErr r (ComesInPart c.args.program)) c.in-Err.is part) own;
      lowest = λ d. record {
        node = i;
        inside = c.loop-one-test.true;
        refuses = ap (λ x. x.share) (any_default done i d one c.loop-one-test.true ∙ sym c.one-item.is) ∙ c.in-Err.is;
        own = own;
        below = λ k low. c.loop-one.invariant k d low;
      };
      none = tt;
    }

pub returns : goal.returns
returns g c = record { comes = tt; lowest = tt; none = λ k d low. c.loop-one.invariant k d (omega (arith, low, c.loop-one-test.false)) }
