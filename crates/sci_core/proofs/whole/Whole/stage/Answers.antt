use Rattle.std.proofs.Common.{rules, ◌∙◌, ◌<◌, length, ap, sym, arith}
use Rattle.sci_core.specs.declared.stages.Stage.{Stage}
use Rattle.sci_core.specs.State.{State}
use Rattle.sci_core.specs.Stage.{stage_of}
use Rattle.sci_core.specs.Whole.{WholeLine, state_of}
use Rattle.sci_core.proofs.States.{read_node}
use Rattle.sci_core.proofs.Laying.{node_inside, stage_with, state_seen}
use Rattle.sci_core.proofs.whole.Whole.stage.Goals as goal

pub returns : goal.returns
returns g c =
    let inside : c.args.node < length c.self.inside.tags.items = node_inside c.self.view_is c.requires in
    let below : c.args.node < length c.self.inside.stages.items = omega (arith, c.self.invariant.of_stages) in
    let read = read_node c.self.inside.stages.items c.from.result c.args.node c.index.result.now Stage.Idle (search rules) below c.index.ensures in
    read ∙ sym (stage_with _ _)
    ∙ ap (λ (s : State). stage_of (s.steps c.args.node)) (sym (state_seen c.self.inside.tags.items c.self.inside.stages.items c.self.inside.lines.items c.self.invariant.of_stages c.self.invariant.of_lines c.self.inside.keep c.self.inside.number c.self.inside.memory c.self.inside.memory_bytes))
    ∙ ap (λ (v : WholeLine g.row.K.Denot). stage_of ((state_of v).steps c.args.node)) c.self.view_is
