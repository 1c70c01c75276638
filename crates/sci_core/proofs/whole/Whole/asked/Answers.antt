use Rattle.std.proofs.Common.{◌∙◌, ◌<◌, length, get_or, ap, sym, subst, arith}
use Rattle.sci_core.specs.declared.pending.Pending.{Pending}
use Rattle.sci_core.specs.declared.stages.Stage.{Stage}
use Rattle.sci_core.specs.declared.outlines.Outline.{Outline}
use Rattle.sci_core.specs.State.{blank}
use Rattle.sci_core.specs.Table.{row_of}
use Rattle.sci_core.specs.Ranges.{ChangesBelow}
use Rattle.sci_core.specs.Laid.{MovesBelow}
use Rattle.sci_core.specs.Stage.{pending_of, outline_of}
use Rattle.sci_core.specs.Whole.{WholeLine, IsSound, nodes_of}
use Rattle.sci_core.proofs.States.{read_node}
use Rattle.sci_core.proofs.Lawfully.{lawful_line}
use Rattle.sci_core.proofs.Sound.{asked_below}
use Rattle.sci_core.proofs.Laying.{node_inside, step_at_node}
use Rattle.sci_core.proofs.Filling.{motion_below}
use Rattle.sci_core.proofs.whole.Whole.asked.Goals as goal

pub returns-clause-outline : goal.returns-clause-outline
returns-clause-outline g c =
    let inside : c.args.node < length c.self.inside.tags.items = node_inside c.self.view_is c.requires in
    let below : c.args.node < length c.self.inside.stages.items = omega (arith, c.self.invariant.of_stages) in
    let stage = read_node c.self.inside.stages.items c.place_of.result c.args.node c.index.result.now Stage.Idle c.place_of.ensures below c.index.ensures in
    let step = ap (λ (s : Stage). pending_of s (get_or c.self.inside.lines.items c.args.node blank)) stage
    ∙ step_at_node c.self.inside.keep c.self.inside.number c.self.inside.memory c.self.inside.tags.items c.self.inside.stages.items c.self.inside.memory_bytes c.self.inside.lines.items c.self.invariant.of_stages c.self.invariant.of_lines c.args.self.now c.self.view_is c.args.node in
    c.outline.ensures (get_or c.self.inside.lines.items c.args.node blank) ∙ ap (λ (p : Pending). outline_of (row_of c.args.node p c.args.event.now)) step

pub returns-clause-change : goal.returns-clause-change
returns-clause-change g c =
    let sound = subst (λ (w : WholeLine g.row.K.Denot). IsSound (g.K.Keeps.fits w.keep w.number) w) c.self.view_is c.self.invariant.sound in
    subst (λ (o : Outline). ChangesBelow (nodes_of c.args.self.now) o.change) (sym (returns-clause-outline g c)) (asked_below _ _ sound c.args.node c.requires c.args.event.now).change

pub returns-clause-motion : goal.returns-clause-motion
returns-clause-motion g c =
    let sound = subst (λ (w : WholeLine g.row.K.Denot). IsSound (g.K.Keeps.fits w.keep w.number) w) c.self.view_is c.self.invariant.sound in
    subst (λ (o : Outline). MovesBelow (nodes_of c.args.self.now) o.motion) (sym (returns-clause-outline g c)) (motion_below _ _ (asked_below _ _ sound c.args.node c.requires c.args.event.now).carry)

pub returns-clause-lawful : goal.returns-clause-lawful
returns-clause-lawful g c =
    let sound = subst (λ (w : WholeLine g.row.K.Denot). IsSound (g.K.Keeps.fits w.keep w.number) w) c.self.view_is c.self.invariant.sound in
    lawful_line _ _ _ sound.ruled
