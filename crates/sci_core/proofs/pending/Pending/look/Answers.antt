use Rattle.std.proofs.Common.{◌∙◌, ap}
use Rattle.sci_core.specs.declared.pending.Pending.{Pending}
use Rattle.sci_core.specs.Step.{look_of}
use Rattle.sci_core.proofs.Laying.{step_of}
use Rattle.sci_core.proofs.pending.Pending.look.Goals as goal

pub returns : goal.returns
returns c =
    c.with.ensures ∙ c.look.ensures c.line-line.result
    ∙ ap (λ (p : Pending). look_of p c.args.own.now) (step_of c.stage-stage.result c.line-line.result c.args.self.now c.stage-stage.ensures c.line-line.ensures)
