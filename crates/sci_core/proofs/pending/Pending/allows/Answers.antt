use Rattle.std.proofs.Common.{◌∙◌, ap}
use Rattle.sci_core.specs.declared.pending.Pending.{Pending}
use Rattle.sci_core.specs.Answers.{is_allowed}
use Rattle.sci_core.proofs.Laying.{step_of}
use Rattle.sci_core.proofs.pending.Pending.allows.Goals as goal

pub returns : goal.returns
returns c = c.allows.ensures ∙ ap (λ (p : Pending). is_allowed c.args.nodes c.args.me p c.args.event.now) (step_of c.stage.result c.line.result c.args.self.now c.stage.ensures c.line.ensures)
