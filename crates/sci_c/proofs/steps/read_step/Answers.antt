use Rattle.std.proofs.Common.{sym, subst, ◌∙◌}
use Rattle.sci_core.specs.declared.stages.Stage.{Stage}
use Rattle.sci_c.specs.Steps.{IsStep}
use Rattle.sci_c.proofs.Meaning.{is_meant, not_both}
use Rattle.sci_c.proofs.steps.read_step.Goals as goal

pub returns-then-is_step-clause-one : goal.returns-then-is_step-clause-one
returns-then-is_step-clause-one c =
    λ s t h k. sym (is_meant c.args.numbers.now c.tag_meant.result s c.tag_meant.ensures h) ∙ is_meant c.args.numbers.now c.tag_meant.result t c.tag_meant.ensures k

pub returns-else-is_step-clause-step : goal.returns-else-is_step-clause-step
returns-else-is_step-clause-step c =
    λ s h. not_both c.is_step.result c.if-is_step.false (c.is_step.ensures.1 (subst (λ (u : Stage). IsStep c.args.numbers.now u) (sym (c.stage_meant-stage.ensures ∙ is_meant c.args.numbers.now c.tag_meant.result s c.tag_meant.ensures h)) h))

pub returns-else-is_step-clause-one : goal.returns-else-is_step-clause-one
returns-else-is_step-clause-one c =
    λ s t h k. sym (is_meant c.args.numbers.now c.tag_meant.result s c.tag_meant.ensures h) ∙ is_meant c.args.numbers.now c.tag_meant.result t c.tag_meant.ensures k
