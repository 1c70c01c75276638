use Rattle.std.proofs.Common.{◌≡◌, ◌∙◌, ap}
use Rattle.sci_core.specs.Stage.{stage_of}
use Rattle.sci_core.specs.Whole.{nodes_of, state_of}
use Rattle.sci_script.proofs.Awaiting.{under_way}
use Rattle.sci_script.proofs.waiting.waits_for.Goals as goal

pub returns-in_default : goal.returns-in_default
returns-in_default c = under_way (nodes_of c.args.line.now) (state_of c.args.line.now) c.args.goal c.args.node (λ e. c.in_default.not-Idle (c.stage.ensures ∙ ap stage_of e)) c.waits_for.result c.waits_for.ensures.waits
