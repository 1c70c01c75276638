use Rattle.std.proofs.Common.{◌≡◌, ◌∙◌, ◌<◌, rules, length, ap, subst, sym, refl, true, slice_index_or}
use Rattle.std.proofs.lemmas.List.{get_or_read_under}
use Rattle.sci_words.specs.declared.tags.Tag.{Tag}
use Rattle.sci_words.specs.Tag.{tag_well_formed, tag_links_below}
use Rattle.sci_core.specs.State.{invalid}
use Rattle.sci_core.specs.Whole.{WholeLine, state_of}
use Rattle.sci_core.proofs.Laying.{node_inside}
use Rattle.sci_core.proofs.States.{read_node}
use Rattle.sci_core.proofs.Sound.{tag_links}
use Rattle.sci_core.proofs.whole.Whole.tag.Goals as goal

pub returns-clause-value : goal.returns-clause-value
returns-clause-value g c =
    let inside : c.args.node < length c.self.inside.tags.items = node_inside c.self.view_is c.requires in
    read_node c.self.inside.tags.items c.from.result c.args.node c.index.result.now invalid (c.from.ensures ∙ c.get.ensures.value) inside c.index.ensures
    ∙ ap (λ (w : WholeLine g.row.K.Denot). (state_of w).tags c.args.node) c.self.view_is

pub returns-clause-well_formed : goal.returns-clause-well_formed
returns-clause-well_formed g c =
    let below : c.from.result < length c.self.inside.tags.items = search rules in
    let is : c.index.result.now ≡ slice_index_or c.self.inside.tags.items c.from.result invalid = get_or_read_under _ _ _ _ invalid c.index.ensures below refl in
    subst (λ (t : Tag). tag_well_formed t ≡ true) (sym is) (c.self.invariant.sound.ruled.words.tags c.from.result)

pub returns-clause-links : goal.returns-clause-links
returns-clause-links g c =
    let below : c.from.result < length c.self.inside.tags.items = search rules in
    let is : c.index.result.now ≡ slice_index_or c.self.inside.tags.items c.from.result invalid = get_or_read_under _ _ _ _ invalid c.index.ensures below refl in
    rw (← c.self.view_is) (subst (λ (t : Tag). tag_links_below (length c.self.inside.tags.items) t ≡ true) (sym is) (tag_links _ _ c.self.invariant.sound.ruled.links c.from.result))
