use Rattle.std.proofs.Common.{rules, ◌≡◌, ◌∙◌, ◌<◌, length, get_or, ap, arith}
use Rattle.sci_core.specs.declared.lines.Line.{Line}
use Rattle.sci_core.specs.declared.stages.Stage.{Stage}
use Rattle.sci_core.specs.State.{blank}
use Rattle.sci_core.specs.Stage.{pending_of}
use Rattle.sci_core.proofs.States.{read_node}
use Rattle.sci_core.proofs.Laying.{node_inside, step_at_node}
use Rattle.sci_core.proofs.whole.Whole.pending.Goals as goal

pub returns : goal.returns
returns g c =
    let inside : c.args.node < length c.self.inside.tags.items = node_inside c.self.view_is c.requires in
    let below : c.args.node < length c.self.inside.stages.items = omega (arith, c.self.invariant.of_stages) in
    let below_lines : c.args.node < length c.self.inside.lines.items = omega (arith, c.self.invariant.of_lines) in
    let place : c.from-place.result ≡ c.args.node = search rules in
    let stage = read_node c.self.inside.stages.items c.from-place.result c.args.node c.index.result.now Stage.Idle place below c.index.ensures in
    let line = read_node c.self.inside.lines.items c.from-place.result c.args.node c.index-2.result.now blank place below_lines c.index-2.ensures in
    c.with.ensures ∙ ap (λ (s : Stage). pending_of s c.index-2.result.now) stage ∙ ap (λ (l : Line). pending_of (get_or c.self.inside.stages.items c.args.node Stage.Idle) l) line
    ∙ step_at_node c.self.inside.keep c.self.inside.number c.self.inside.memory c.self.inside.tags.items c.self.inside.stages.items c.self.inside.memory_bytes c.self.inside.lines.items c.self.invariant.of_stages c.self.invariant.of_lines c.args.self.now c.self.view_is c.args.node
