use Rattle.std.proofs.Common.{◌∙◌, ◌<◌, ℕ, length, get_or, ap, arith}
use Rattle.sci_core.specs.declared.lines.Line.{Line}
use Rattle.sci_core.specs.declared.pending.Pending.{Pending}
use Rattle.sci_core.specs.declared.stages.Stage.{Stage}
use Rattle.sci_core.specs.State.{blank}
use Rattle.sci_core.specs.Answers.{is_allowed}
use Rattle.sci_core.specs.Stage.{pending_of}
use Rattle.sci_core.specs.Whole.{state_of}
use Rattle.sci_core.proofs.States.{read_node}
use Rattle.sci_core.proofs.Laying.{node_inside, step_at_node}
use Rattle.sci_core.proofs.whole.Whole.allows.Goals as goal

pub returns-clause-allowed : goal.returns-clause-allowed
returns-clause-allowed g c =
    let inside : c.args.node < length c.self.inside.tags.items = node_inside c.self.view_is c.requires in
    let below : c.args.node < length c.self.inside.stages.items = omega (arith, c.self.invariant.of_stages) in
    let below_lines : c.args.node < length c.self.inside.lines.items = omega (arith, c.self.invariant.of_lines) in
    let stage = read_node c.self.inside.stages.items c.place_of-place.result c.args.node c.index.result.now Stage.Idle c.place_of-place.ensures below c.index.ensures in
    let line = read_node c.self.inside.lines.items c.place_of-place.result c.args.node c.index-2.result.now blank c.place_of-place.ensures below_lines c.index-2.ensures in
    let step = ap (λ (s : Stage). pending_of s c.index-2.result.now) stage ∙ ap (λ (l : Line). pending_of (get_or c.self.inside.stages.items c.args.node Stage.Idle) l) line
    ∙ step_at_node c.self.inside.keep c.self.inside.number c.self.inside.memory c.self.inside.tags.items c.self.inside.stages.items c.self.inside.memory_bytes c.self.inside.lines.items c.self.invariant.of_stages c.self.invariant.of_lines c.args.self.now c.self.view_is c.args.node in
    c.allows.ensures ∙ ap (λ (p : Pending). is_allowed c.nodes-nodes.result c.args.node p c.args.event.now) step
    ∙ ap (λ (n : ℕ). is_allowed n c.args.node ((state_of c.args.self.now).steps c.args.node) c.args.event.now) c.nodes-nodes.ensures.nodes
