use Rattle.std.proofs.Common.{rules, ◌≡◌, ◌∙◌, ◌<◌, true, ap, sym, subst, ℕ, List, length, get_or, cond, Option, Some, None, set, take, drop, ◌++◌, arith}
use Rattle.sci_words.specs.declared.tags.Tag.{Tag}
use Rattle.sci_core.specs.declared.lines.Line.{Line}
use Rattle.sci_core.specs.declared.pending.Pending.{Pending}
use Rattle.sci_core.specs.declared.stages.Stage.{Stage}
use Rattle.sci_core.specs.State.{State, blank}
use Rattle.sci_core.specs.Answers.{Makes}
use Rattle.sci_core.specs.Laid.{lines_after, bytes_after, seen_whole, step_laid, CanCountIn, MovesBelow}
use Rattle.sci_core.specs.Ranges.{ChangesBelow}
use Rattle.sci_core.specs.Table.{has_row}
use Rattle.sci_core.specs.Whole.{WholeLine, IsSound, nodes_of, state_of, tag_list_after}
use Rattle.sci_core.proofs.Filling.{counts_allowed}
use Rattle.sci_core.proofs.Laying.{node_inside, step_at_node}
use Rattle.sci_core.proofs.Lawfully.{done_keeps}
use Rattle.sci_core.proofs.Making.{made_as}
use Rattle.sci_core.proofs.Sound.{all_of, tags_long}
use Rattle.sci_core.proofs.States.{read_node}
use Rattle.sci_core.proofs.whole.Whole.make.Goals as goal

pub write_word-requires : goal.write_word-requires
write_word-requires g c =
    let there : length c.deref_mut.result.now ≡ length c.self.inside.tags.items = ap (length {A = Tag}) c.deref_mut.ensures.value in
    let count : length c.self.inside.tags.items ≡ nodes_of c.args.self.now = ap (λ (u : WholeLine g.row.K.Denot). nodes_of u) c.self.view_is in
    subst (λ (n : ℕ). ChangesBelow n c.args.outline.now.change) (sym (there ∙ count)) c.requires.change

pub index_mut-requires : goal.index_mut-requires
index_mut-requires g c =
    let inside : c.args.node < length c.self.inside.tags.items = node_inside c.self.view_is c.requires.node in
    omega (arith, c.self.invariant.of_stages, c.place_of-place.ensures)

pub index-requires : goal.index-requires
index-requires g c =
    let inside : c.args.node < length c.self.inside.tags.items = node_inside c.self.view_is c.requires.node in
    omega (arith, c.self.invariant.of_lines, c.place_of-place.ensures)

pub move_bytes-requires-clause-own : goal.move_bytes-requires-clause-own
move_bytes-requires-clause-own g c =
    let inside : c.args.node < length c.self.inside.tags.items = node_inside c.self.view_is c.requires.node in
    let there : length c.deref_mut-2.result.now ≡ length c.self.inside.lines.items = ap (length {A = Line}) c.deref_mut-2.ensures.value in
    omega (arith, c.self.invariant.of_lines)

pub move_bytes-requires-clause-motion : goal.move_bytes-requires-clause-motion
move_bytes-requires-clause-motion g c =
    let there : length c.deref_mut-2.result.now ≡ length c.self.inside.lines.items = ap (length {A = Line}) c.deref_mut-2.ensures.value in
    let count : length c.self.inside.tags.items ≡ nodes_of c.args.self.now = ap (λ (u : WholeLine g.row.K.Denot). nodes_of u) c.self.view_is in
    subst (λ (n : ℕ). MovesBelow n c.args.outline.now.motion) (sym (there ∙ c.self.invariant.of_lines ∙ count)) c.requires.motion

pub move_bytes-requires-clause-stamp : goal.move_bytes-requires-clause-stamp
move_bytes-requires-clause-stamp g c =
    let step : step_laid c.self.inside.stages.items c.self.inside.lines.items c.args.node ≡ (state_of c.args.self.now).steps c.args.node =
    step_at_node c.self.inside.keep c.self.inside.number c.self.inside.memory c.self.inside.tags.items c.self.inside.stages.items c.self.inside.memory_bytes c.self.inside.lines.items c.self.invariant.of_stages c.self.invariant.of_lines c.args.self.now c.self.view_is c.args.node in
    let allowed = subst (λ (p : Pending). has_row (nodes_of c.args.self.now) c.args.node p c.args.event.now ≡ true) (sym step) c.requires.allowed in
    subst (λ (l : List Line). CanCountIn (get_or l c.args.node blank) c.args.event.now) (sym c.deref_mut-2.ensures.value)
    (counts_allowed (nodes_of c.args.self.now) c.args.node (get_or c.self.inside.stages.items c.args.node Stage.Idle) (get_or c.self.inside.lines.items c.args.node blank) c.args.event.now allowed)

pub invariant_of-self : goal.invariant_of-self
invariant_of-self g c =
    let t : length c.write_word.new.tags ≡ length c.self.inside.tags.items = c.write_word.auto.tags ∙ ap (length {A = Tag}) c.deref_mut.ensures.value in
    let s : length c.move_bytes.new.lines ≡ length c.self.inside.lines.items = c.move_bytes.auto.lines ∙ ap (length {A = Line}) c.deref_mut-2.ensures.value in
    let tags : List Tag = take c.self.inside.tags.len (c.write_word.new.tags ++ drop (length c.write_word.new.tags) c.self.inside.tags.items) in
    let lines : List Line = take c.self.inside.lines.len (c.move_bytes.new.lines ++ drop (length c.move_bytes.new.lines) c.self.inside.lines.items) in
    let tags_are : tags ≡ tag_list_after c.self.inside.tags.items c.args.outline.now.change =
    all_of c.self.inside.tags.len c.write_word.new.tags c.self.inside.tags.items (search rules) t ∙ c.write_word.ensures.tags ∙ ap (λ (l : List Tag). tag_list_after l c.args.outline.now.change) c.deref_mut.ensures.value in
    let lines_are : lines ≡ lines_after c.self.inside.memory_bytes c.self.inside.lines.items c.args.node c.args.event.now c.args.outline.now.motion c.args.outline.now.after =
    all_of c.self.inside.lines.len c.move_bytes.new.lines c.self.inside.lines.items (search rules) s ∙ c.move_bytes.ensures.lines ∙ ap (λ (l : List Line). lines_after c.self.inside.memory_bytes l c.args.node c.args.event.now c.args.outline.now.motion c.args.outline.now.after) c.deref_mut-2.ensures.value in
    let bytes_are : c.move_bytes.new.bytes ≡ bytes_after c.self.inside.memory_bytes c.self.inside.lines.items c.args.node c.args.event.now c.args.outline.now.motion =
    c.move_bytes.ensures.memory ∙ ap (λ (l : List Line). bytes_after c.self.inside.memory_bytes l c.args.node c.args.event.now c.args.outline.now.motion) c.deref_mut-2.ensures.value in
    let made = made_as g.K.Keeps.fits c.self.inside.keep c.self.inside.number c.self.inside.memory c.self.inside.tags.items c.self.inside.stages.items c.self.inside.memory_bytes c.self.inside.lines.items c.self.invariant c.args.self.now c.self.view_is c.args.node c.args.event.now c.args.outline.now
    record {
      below = c.requires.node;
      allowed = c.requires.allowed;
      finds = c.requires.finds;
      fit = c.requires.fits;
      outline = c.requires.outline;
    }
    c.write_word.new.memory tags c.place_of-place.result c.move_bytes.new.bytes lines
    c.write_word.ensures.memory tags_are c.place_of-place.ensures bytes_are lines_are in
    made.laid

pub returns-clause-makes : goal.returns-clause-makes
returns-clause-makes g c =
    let t : length c.write_word.new.tags ≡ length c.self.inside.tags.items = c.write_word.auto.tags ∙ ap (length {A = Tag}) c.deref_mut.ensures.value in
    let s : length c.move_bytes.new.lines ≡ length c.self.inside.lines.items = c.move_bytes.auto.lines ∙ ap (length {A = Line}) c.deref_mut-2.ensures.value in
    let tags : List Tag = take c.self.inside.tags.len (c.write_word.new.tags ++ drop (length c.write_word.new.tags) c.self.inside.tags.items) in
    let lines : List Line = take c.self.inside.lines.len (c.move_bytes.new.lines ++ drop (length c.move_bytes.new.lines) c.self.inside.lines.items) in
    let tags_are : tags ≡ tag_list_after c.self.inside.tags.items c.args.outline.now.change =
    all_of c.self.inside.tags.len c.write_word.new.tags c.self.inside.tags.items (search rules) t ∙ c.write_word.ensures.tags ∙ ap (λ (l : List Tag). tag_list_after l c.args.outline.now.change) c.deref_mut.ensures.value in
    let lines_are : lines ≡ lines_after c.self.inside.memory_bytes c.self.inside.lines.items c.args.node c.args.event.now c.args.outline.now.motion c.args.outline.now.after =
    all_of c.self.inside.lines.len c.move_bytes.new.lines c.self.inside.lines.items (search rules) s ∙ c.move_bytes.ensures.lines ∙ ap (λ (l : List Line). lines_after c.self.inside.memory_bytes l c.args.node c.args.event.now c.args.outline.now.motion c.args.outline.now.after) c.deref_mut-2.ensures.value in
    let bytes_are : c.move_bytes.new.bytes ≡ bytes_after c.self.inside.memory_bytes c.self.inside.lines.items c.args.node c.args.event.now c.args.outline.now.motion =
    c.move_bytes.ensures.memory ∙ ap (λ (l : List Line). bytes_after c.self.inside.memory_bytes l c.args.node c.args.event.now c.args.outline.now.motion) c.deref_mut-2.ensures.value in
    let made = made_as g.K.Keeps.fits c.self.inside.keep c.self.inside.number c.self.inside.memory c.self.inside.tags.items c.self.inside.stages.items c.self.inside.memory_bytes c.self.inside.lines.items c.self.invariant c.args.self.now c.self.view_is c.args.node c.args.event.now c.args.outline.now
    record {
      below = c.requires.node;
      allowed = c.requires.allowed;
      finds = c.requires.finds;
      fit = c.requires.fits;
      outline = c.requires.outline;
    }
    c.write_word.new.memory tags c.place_of-place.result c.move_bytes.new.bytes lines
    c.write_word.ensures.memory tags_are c.place_of-place.ensures bytes_are lines_are in
    let below : c.args.node < length c.self.inside.tags.items = node_inside c.self.view_is c.requires.node in
    let there : c.args.node < length lines = omega (arith, made.laid.of_lines, ap (length {A = Tag}) tags_are, tags_long c.self.inside.tags.items c.args.outline.now.change) in
    let line : c.index.result.now ≡ get_or lines c.args.node blank = read_node lines c.place_of-place.result c.args.node c.index.result.now blank c.place_of-place.ensures there c.index.ensures in
    let answers : c.answer.result ≡ cond c.args.outline.now.answers (Some (get_or lines c.args.node blank)) None = c.answer.ensures ∙ ap (λ (l : Line). cond c.args.outline.now.answers (Some l) None) line in
    let stages : List Stage = set c.self.inside.stages.items c.place_of-place.result c.args.outline.now.after in
    let after : State = state_of (seen_whole c.self.inside.keep c.self.inside.number c.write_word.new.memory tags stages c.move_bytes.new.bytes lines) in
    subst (λ (a : Option Line). Makes (nodes_of c.args.self.now) (state_of c.args.self.now) c.args.node c.args.event.now a after) (sym answers) made.makes

pub returns-clause-keeps : goal.returns-clause-keeps
returns-clause-keeps g c =
    let sound = subst (λ (w : WholeLine g.row.K.Denot). IsSound (g.K.Keeps.fits w.keep w.number) w) c.self.view_is c.self.invariant.sound in
    done_keeps _ _ _ _ _ _ _ sound.ruled c.requires.node c.requires.fits (returns-clause-makes g c)
