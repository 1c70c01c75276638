use Rattle.std.proofs.Common.{◌≡◌, refl, subst}
use Rattle.sci_core.specs.declared.outlines.Outline.{Outline}
use Rattle.sci_core.specs.Answers.{found_code}
use Rattle.sci_core.specs.Step.{Finds}
use Rattle.sci_core.specs.WellFormed.{FindsWord}
use Rattle.sci_core.specs.Whole.{nodes_of, state_of}
use Rattle.sci_core.proofs.Lawfully.{missed_keeps}
use Rattle.sci_core.proofs.whole.Whole.exchange.Goals as goal

pub make-requires-clause-finds : goal.make-requires-clause-finds
make-requires-clause-finds g c = subst (λ (o : Outline). Finds (state_of c.args.self.now) o.change) c.asked-outline.ensures.outline c.in-None.ensures.other

pub returns-in-Some-clause-outcome : goal.returns-in-Some-clause-outcome
returns-in-Some-clause-outcome g c =
    let misses = subst (λ (o : Outline). (Finds (state_of c.args.self.now) o.change → ⊥) × (c.in-Some.found ≡ found_code (state_of c.args.self.now) o.change)) c.asked-outline.ensures.outline c.in-Some.ensures.other in
    let formed = subst (λ (o : Outline). FindsWord (nodes_of c.args.self.now) (state_of c.args.self.now) o.change) c.asked-outline.ensures.outline c.in-Some.ensures.formed in
    record { allowed = c.requires.allowed; formed = formed; other = misses.0; found = misses.1; same = refl }

pub returns-in-Some-clause-keeps : goal.returns-in-Some-clause-keeps
returns-in-Some-clause-keeps g c = missed_keeps _ _ _ _ _ _ _ c.asked-outline.ensures.lawful refl
