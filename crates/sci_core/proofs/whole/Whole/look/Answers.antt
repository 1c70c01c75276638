use Rattle.std.proofs.Common.{◌≡◌, ◌∙◌, ◌<◌, length, get_or, ap, subst, arith}
use Rattle.sci_words.specs.declared.tags.Tag.{Tag}
use Rattle.sci_core.specs.declared.lines.Line.{Line}
use Rattle.sci_core.specs.declared.stages.Stage.{Stage}
use Rattle.sci_core.specs.Stage.{pending_of}
use Rattle.sci_core.specs.Step.{look_of}
use Rattle.sci_core.specs.Whole.{WholeLine, IsSound, state_of}
use Rattle.sci_core.proofs.States.{read_node}
use Rattle.sci_core.proofs.Lawfully.{look_keeps}
use Rattle.sci_core.proofs.Making.{looked_as}
use Rattle.sci_core.proofs.Laying.{node_inside}
use Rattle.sci_core.proofs.whole.Whole.look.Goals as goal

pub invariant_of-self : goal.invariant_of-self
invariant_of-self g c =
    let below : c.args.node < length c.self.inside.tags.items = node_inside c.self.view_is c.requires.node in
    let in_stages : c.args.node < length c.self.inside.stages.items = omega (arith, c.self.invariant.of_stages) in
    let stage = read_node c.self.inside.stages.items c.place_of.result c.args.node c.index_mut.result.now Stage.Idle c.place_of.ensures in_stages c.index_mut.ensures.value in
    let after : (l : Line) → pending_of c.look.new.self l ≡ look_of (pending_of (get_or c.self.inside.stages.items c.args.node Stage.Idle) l) ((state_of c.args.self.now).tags c.args.node) =
    λ l. c.look.ensures l ∙ ap (λ (s : Stage). look_of (pending_of s l) c.tag-own.result) stage ∙ ap (λ (t : Tag). look_of (pending_of (get_or c.self.inside.stages.items c.args.node Stage.Idle) l) t) c.tag-own.ensures.value in
    (looked_as g.K.Keeps.fits c.self.inside.keep c.self.inside.number c.self.inside.memory c.self.inside.tags.items c.self.inside.stages.items c.self.inside.memory_bytes c.self.inside.lines.items c.self.invariant c.args.self.now c.self.view_is c.args.node below c.place_of.result c.place_of.ensures c.look.new.self after).0

pub returns-clause-looked : goal.returns-clause-looked
returns-clause-looked g c =
    let below : c.args.node < length c.self.inside.tags.items = node_inside c.self.view_is c.requires.node in
    let in_stages : c.args.node < length c.self.inside.stages.items = omega (arith, c.self.invariant.of_stages) in
    let stage = read_node c.self.inside.stages.items c.place_of.result c.args.node c.index_mut.result.now Stage.Idle c.place_of.ensures in_stages c.index_mut.ensures.value in
    let after : (l : Line) → pending_of c.look.new.self l ≡ look_of (pending_of (get_or c.self.inside.stages.items c.args.node Stage.Idle) l) ((state_of c.args.self.now).tags c.args.node) =
    λ l. c.look.ensures l ∙ ap (λ (s : Stage). look_of (pending_of s l) c.tag-own.result) stage ∙ ap (λ (t : Tag). look_of (pending_of (get_or c.self.inside.stages.items c.args.node Stage.Idle) l) t) c.tag-own.ensures.value in
    (looked_as g.K.Keeps.fits c.self.inside.keep c.self.inside.number c.self.inside.memory c.self.inside.tags.items c.self.inside.stages.items c.self.inside.memory_bytes c.self.inside.lines.items c.self.invariant c.args.self.now c.self.view_is c.args.node below c.place_of.result c.place_of.ensures c.look.new.self after).1

pub returns-clause-keeps : goal.returns-clause-keeps
returns-clause-keeps g c =
    let sound = subst (λ (w : WholeLine g.row.K.Denot). IsSound (g.K.Keeps.fits w.keep w.number) w) c.self.view_is c.self.invariant.sound in
    look_keeps _ _ _ _ _ sound.ruled c.requires.node (returns-clause-looked g c)
