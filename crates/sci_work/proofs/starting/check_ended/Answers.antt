use Rattle.std.proofs.Common.{◌≡◌, true, false, inl, inr, refl, sym, ◌∙◌}
use Rattle.sci_work.proofs.starting.check_ended.Goals as goal

pub returns-in-Err-clause-answer : goal.returns-in-Err-clause-answer
returns-in-Err-clause-answer g c = λ d. inl (c.in-Err.ensures.lowest d)

pub returns-in-Ok-clause-ended : goal.returns-in-Ok-clause-ended
returns-in-Ok-clause-ended g c = λ k d low. ((c.have_ended.ensures.ended d).0 c.if-have_ended.true).1 k low

pub returns-in-Ok-2-clause-answer : goal.returns-in-Ok-2-clause-answer
returns-in-Ok-2-clause-answer g c = λ d. inr (refl, (λ h. let yes = (c.have_ended.ensures.ended d).1 h in let no = c.if-have_ended.false in let e : true ≡ false = sym yes ∙ no in cc), λ k low. c.in-Ok-2.ensures.none k d low)
